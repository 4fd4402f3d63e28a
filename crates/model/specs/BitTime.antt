-- One bit time, in its seven steps, and its answer.
use Rattle.std.specs.Prelude.{ℕ, suc, ◌+◌, ◌-◌, min, Bool, true, false, cond, not, ◌&&◌, ◌||◌, List, [], ◌∷◌, ◌++◌, map, length, take, replicate, ◌==◌, nat_le, nat_lt, slice_index, slice_index_or, slice_set}
use Rattle.model.specs.Bits.{bit, has}
use Rattle.model.specs.Frames.{frame_levels, message}
use Rattle.model.specs.Reading.{Reading, hunting, between, inside, Step, goes, ends_broken, ends_right, reads, bytes_read, opened}
use Rattle.model.specs.Filter.{accepts}
use Rattle.model.specs.Controller.{page_size, rx_pages, Settings, TransmitState, free, waiting, sending, Transmitter, PageRing, Receiver, Controller, Table, is_waiting, fill_page}
use Rattle.model.specs.RegisterRule.{idle}

-- ---- 1. who begins

-- a transmitter in another state
abbrev pub with_state : TransmitState → Transmitter → Transmitter
with_state s t = record {
  written = t.written;
  other = t.other;
  pointer = t.pointer;
  state = s;
  conflicts = t.conflicts;
  tx_cd = t.tx_cd;
  tx_error = t.tx_error;
}

-- a controller with a waiting page, not sending, begins once the line was 1 for both waits
unfoldable pub begins : Controller → Bool
begins c = is_waiting c.tx.state && nat_le (c.settings.idle_wait + c.settings.tx_wait) c.rx.ones

-- the transmitter of a controller that begins, if it does
unfoldable pub begun : Controller → Transmitter
begun c = with_state (cond (begins c) (sending 0) c.tx.state) c.tx

-- ---- 2. what senders drive, and the level of the line

-- the levels of the waiting page's frame
abbrev pub frame_of : Transmitter → List Bool
frame_of t = frame_levels (message t.other)

-- a sender drives its next level; who does not send leaves the line at 1
unfoldable pub next_level : TransmitState → List Bool → Bool
next_level free frame = true
next_level waiting frame = true
next_level (sending p) frame = slice_index_or frame p true

-- the level that a transmitter drives
unfoldable pub drives : Transmitter → Bool
drives t = next_level t.state (frame_of t)

-- each of these is true
abbrev pub all : List Bool → Bool
all [] = true
all (b ∷ bs) = b && all bs

-- the level that a controller drives, having begun if it does
abbrev pub driving : Controller → Bool
driving c = drives (begun c)

-- the line is 0 if a controller drives 0 or something outside pulls
unfoldable pub line_level : Bool → Table → Bool
line_level pulled t = not pulled && all (map driving t)

-- ---- 3. who draws back, gives up, has sent

-- one of the eight source bits is driven
unfoldable pub in_source : TransmitState → Bool
in_source free = false
in_source waiting = false
in_source (sending p) = nat_le 1 p && nat_le p 8

-- the last stop bit is driven
unfoldable pub in_last : TransmitState → List Bool → Bool
in_last free frame = false
in_last waiting frame = false
in_last (sending p) frame = suc p == length frame

-- a sender that drove 1 in a source bit and sees 0
unfoldable pub draws_back : Bool → Transmitter → Bool
draws_back level t = in_source t.state && drives t && not level

-- the conflict at which a page is given up
abbrev pub max_conflicts : ℕ
max_conflicts = 16

-- draws back for the last time
unfoldable pub gives_up : Bool → Transmitter → Bool
gives_up level t = draws_back level t && suc t.conflicts == max_conflicts

-- has driven its last stop bit
unfoldable pub finishes : Bool → Transmitter → Bool
finishes level t = not (draws_back level t) && in_last t.state (frame_of t)

-- one level further
abbrev pub onward : TransmitState → TransmitState
onward free = free
onward waiting = waiting
onward (sending p) = sending (suc p)

-- who draws back waits on, unless it gives up; a page given up or sent waits no more
unfoldable pub transmits : Bool → Transmitter → Transmitter
transmits level t = record {
  written = t.written;
  other = t.other;
  pointer = t.pointer;
  state =
      cond (gives_up level t || finishes level t) free
      (cond (draws_back level t) waiting (onward t.state));
  conflicts = cond (gives_up level t || finishes level t) 0 (t.conflicts + bit (draws_back level t));
  tx_cd = t.tx_cd || draws_back level t;
  tx_error = t.tx_error || gives_up level t;
}

-- ---- how a frame's end fills a page

-- bytes, then zeros
unfoldable pub page_of : List ℕ → List ℕ
page_of xs = take page_size (xs ++ replicate page_size 0)

-- the fill page gets these bytes and this flag, and is ready
unfoldable pub filled : Bool → List ℕ → ℕ → PageRing → PageRing
filled b xs flag g = record {
  pages = cond b (slice_set g.pages (fill_page g) (record { bytes = page_of xs; flag = flag })) g.pages;
  read = g.read;
  ready = g.ready + bit b;
}

-- one page fewer than there are can be ready
abbrev pub room : PageRing → Bool
room g = nat_lt g.ready (rx_pages - 1)

-- the present filter, by the first two bytes of a frame
unfoldable pub wanted : Settings → List ℕ → Bool
wanted s xs = accepts s.filters (slice_index xs 0) (slice_index xs 1)

-- a right frame that the filter accepts fills a page without its CRC, or is lost
unfoldable pub end_right : Settings → List ℕ → Receiver → Receiver
end_right s xs r = record {
  ring = filled (wanted s xs && room r.ring) (take (length xs - 2) xs) 0 r.ring;
  address = r.address;
  rx_lost = r.rx_lost || wanted s xs && not (room r.ring);
  rx_error = r.rx_error;
  reading = hunting;
  ones = r.ones;
}

-- a broken frame counts if at least two bytes of it were read and the filter accepts
unfoldable pub noticed : Settings → List ℕ → Bool
noticed s xs = nat_le 2 (length xs) && wanted s xs

-- SETTING bit 3 saves broken frames
abbrev pub saves : Settings → Bool
saves s = has s.setting 3

-- a broken frame that counts sets RX_ERROR; saved, it fills a page whose flag is the place of its last byte
unfoldable pub end_broken : Settings → List ℕ → Receiver → Receiver
end_broken s xs r = record {
  ring = filled (noticed s xs && saves s && room r.ring) xs (min (length xs - 1) 255) r.ring;
  address = r.address;
  rx_lost = r.rx_lost;
  rx_error = r.rx_error || noticed s xs;
  reading = hunting;
  ones = r.ones;
}

-- ---- 4. to 6. what the receiver makes of the level

-- a receiver that stands elsewhere in its reading
abbrev pub with_reading : Reading → Receiver → Receiver
with_reading x r = record {
  ring = r.ring;
  address = r.address;
  rx_lost = r.rx_lost;
  rx_error = r.rx_error;
  reading = x;
  ones = r.ones;
}

-- 4. a receiver inside a frame that was idle before this bit time ends it broken by time
unfoldable pub times_out : Settings → Reading → Receiver → Receiver
times_out s hunting r = r
times_out s (between xs) r = end_broken s (bytes_read (between xs)) r
times_out s (inside xs n bs) r = end_broken s (bytes_read (inside xs n bs)) r

-- 6. the frame goes on, or it ends and the receiver hunts
unfoldable pub follows : Settings → Step → Receiver → Receiver
follows s (goes x) r = with_reading x r
follows s (ends_broken xs) r = end_broken s xs r
follows s (ends_right xs) r = end_right s xs r

-- a receiver that was idle hunts, by now at the latest, and starts a frame at a 0 (5.); one that was not reads on
unfoldable pub listens : Bool → Controller → Receiver
listens level c =
    cond (idle c) (with_reading (opened level) (times_out c.settings c.rx.reading c.rx))
    (follows c.settings (reads level c.rx.reading) c.rx)

-- ---- 7. the ones count

-- the ones count goes no higher
abbrev pub max_ones : ℕ
max_ones = 510

-- on a 1 the count rises, on a 0 it is 0
unfoldable pub counts : Bool → Receiver → Receiver
counts level r = record {
  ring = r.ring;
  address = r.address;
  rx_lost = r.rx_lost;
  rx_error = r.rx_error;
  reading = r.reading;
  ones = cond level (min max_ones (r.ones + 1)) 0;
}

-- ---- all of it

-- a controller after a bit time in which the line had this level
unfoldable pub ticked : Bool → Controller → Controller
ticked level c = record {
  settings = c.settings;
  tx = transmits level (begun c);
  rx = counts level (listens level c);
}

-- what a bit time answers for one controller
pub record Marks : Type 0 where
  pub began : Bool
  pub drew_back : Bool
  pub sent : Bool
  pub gave_up : Bool
  pub made_ready : Bool

-- the page that was made ready is told by the number of ready pages
unfoldable pub marks : Bool → Controller → Marks
marks level c = record {
  began = begins c;
  drew_back = draws_back level (begun c);
  sent = finishes level (begun c);
  gave_up = gives_up level (begun c);
  made_ready = nat_lt c.rx.ring.ready (listens level c).ring.ready;
}
