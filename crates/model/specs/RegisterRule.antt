-- The register rule: what a written or read register byte does.
use Rattle.std.specs.Prelude.{ℕ, zero, suc, ◌+◌, ◌-◌, ◌*◌, ◌%◌, Bool, true, false, cond, not, ◌&&◌, List, [], ◌∷◌, ◌==◌, bit_and, nat_le, nat_lt, slice_index, slice_set}
use Rattle.model.specs.Bits.{bit, has}
use Rattle.model.specs.Frames.{max_data, length_byte}
use Rattle.model.specs.Reading.{hunting}
use Rattle.model.specs.Filter.{Filters}
use Rattle.model.specs.Registers.{Stored, setting, idle_wait_len, tx_wait_len, filter, filter1, filter2, divider, int_mask, Register, version, stored, int_flag, rx, tx, rx_ctrl, tx_ctrl, rx_addr, rx_page_flag, admits_stored, admits_control}
use Rattle.model.specs.Controller.{page_size, Settings, free, waiting, Transmitter, PageRing, Receiver, Controller, is_free, next_page, read_page}

-- ---- one part of a record changed

-- a controller with other settings
abbrev pub with_settings : Settings → Controller → Controller
with_settings s c = record { settings = s; tx = c.tx; rx = c.rx }

-- with another transmitter
abbrev pub with_tx : Transmitter → Controller → Controller
with_tx t c = record { settings = c.settings; tx = t; rx = c.rx }

-- with another receiver
abbrev pub with_rx : Receiver → Controller → Controller
with_rx r c = record { settings = c.settings; tx = c.tx; rx = r }

-- settings with other filters
abbrev pub with_filters : Filters → Settings → Settings
with_filters f s = record {
  setting = s.setting;
  idle_wait = s.idle_wait;
  tx_wait = s.tx_wait;
  filters = f;
  dividers = s.dividers;
  mask = s.mask;
}

-- RX_ADDR set
abbrev pub addressed : ℕ → Receiver → Receiver
addressed a r = record {
  ring = r.ring;
  address = a;
  rx_lost = r.rx_lost;
  rx_error = r.rx_error;
  reading = r.reading;
  ones = r.ones;
}

-- RX_ADDR steps on from 255 to 0
abbrev pub stepped : Receiver → Receiver
stepped r = addressed ((r.address + 1) % page_size) r

-- ---- the transmitter

-- TX stores at the write pointer, which steps on from 255 to 0
abbrev pub stores : ℕ → Transmitter → Transmitter
stores v t = record {
  written = slice_set t.written t.pointer v;
  other = t.other;
  pointer = (t.pointer + 1) % page_size;
  state = t.state;
  conflicts = t.conflicts;
  tx_cd = t.tx_cd;
  tx_error = t.tx_error;
}

-- TX_CTRL, bit by bit from bit 0 up. Bit 0 zeroes the write pointer.
abbrev pub zeroes_pointer : Bool → Transmitter → Transmitter
zeroes_pointer b t = record {
  written = t.written;
  other = t.other;
  pointer = cond b 0 t.pointer;
  state = t.state;
  conflicts = t.conflicts;
  tx_cd = t.tx_cd;
  tx_error = t.tx_error;
}

-- bit 1 is START, which is taken if no page waits
abbrev pub takes_start : Bool → Transmitter → Bool
takes_start b t = b && is_free t.state

-- a START that is taken makes the written page wait; the other is written next, from place 0
abbrev pub starts : Bool → Transmitter → Transmitter
starts b t = record {
  written = cond (takes_start b t) t.other t.written;
  other = cond (takes_start b t) t.written t.other;
  pointer = cond (takes_start b t) 0 t.pointer;
  state = cond (takes_start b t) waiting t.state;
  conflicts = t.conflicts;
  tx_cd = t.tx_cd;
  tx_error = t.tx_error;
}

-- bits 2 and 3 clear TX_CD and TX_ERROR
abbrev pub clears_tx : Bool → Bool → Transmitter → Transmitter
clears_tx cd error t = record {
  written = t.written;
  other = t.other;
  pointer = t.pointer;
  state = t.state;
  conflicts = t.conflicts;
  tx_cd = t.tx_cd && not cd;
  tx_error = t.tx_error && not error;
}

-- bit 4 aborts a waiting page, sending or not: it is sent no further and waits no more
abbrev pub aborts : Bool → Transmitter → Transmitter
aborts b t = record {
  written = t.written;
  other = t.other;
  pointer = t.pointer;
  state = cond b free t.state;
  conflicts = cond b 0 t.conflicts;
  tx_cd = t.tx_cd;
  tx_error = t.tx_error;
}

-- a byte written to TX_CTRL
unfoldable pub tx_control : ℕ → Transmitter → Transmitter
tx_control v t = aborts (has v 4) (clears_tx (has v 2) (has v 3) (starts (has v 1) (zeroes_pointer (has v 0) t)))

-- ---- the receiver

-- the read page is ready
abbrev pub is_ready : PageRing → Bool
is_ready g = not (g.ready == 0)

-- a read page that is ready is unmarked, and the next is read
abbrev pub switched : Bool → PageRing → PageRing
switched b g = record {
  pages = g.pages;
  read = cond (b && is_ready g) (next_page g.read) g.read;
  ready = g.ready - bit b;
}

-- all marks go, and the read page and the fill page are page 0; what the pages hold stays
abbrev pub wiped : Bool → PageRing → PageRing
wiped b g = record { pages = g.pages; read = cond b 0 g.read; ready = cond b 0 g.ready }

-- RX_CTRL, bit by bit from bit 0 up. Bit 0 zeroes RX_ADDR.
abbrev pub zeroes_address : Bool → Receiver → Receiver
zeroes_address b r = addressed (cond b 0 r.address) r

-- bit 1 zeroes RX_ADDR too, and switches the page away
abbrev pub switches : Bool → Receiver → Receiver
switches b r = record {
  ring = switched b r.ring;
  address = cond b 0 r.address;
  rx_lost = r.rx_lost;
  rx_error = r.rx_error;
  reading = r.reading;
  ones = r.ones;
}

-- bits 2 and 3 clear RX_LOST and RX_ERROR
abbrev pub clears_rx : Bool → Bool → Receiver → Receiver
clears_rx lost error r = record {
  ring = r.ring;
  address = r.address;
  rx_lost = r.rx_lost && not lost;
  rx_error = r.rx_error && not error;
  reading = r.reading;
  ones = r.ones;
}

-- bit 4 resets the receiver
abbrev pub resets : Bool → Receiver → Receiver
resets b r = record {
  ring = wiped b r.ring;
  address = cond b 0 r.address;
  rx_lost = r.rx_lost && not b;
  rx_error = r.rx_error && not b;
  reading = cond b hunting r.reading;
  ones = cond b 0 r.ones;
}

-- a byte written to RX_CTRL
unfoldable pub rx_control : ℕ → Receiver → Receiver
rx_control v r = resets (has v 4) (clears_rx (has v 2) (has v 3) (switches (has v 1) (zeroes_address (has v 0) r)))

-- ---- writing

-- a stored register takes a value
abbrev pub keeps : Stored → ℕ → Settings → Settings
keeps setting v s = record { setting = v; idle_wait = s.idle_wait; tx_wait = s.tx_wait; filters = s.filters; dividers = s.dividers; mask = s.mask }
keeps idle_wait_len v s = record { setting = s.setting; idle_wait = v; tx_wait = s.tx_wait; filters = s.filters; dividers = s.dividers; mask = s.mask }
keeps tx_wait_len v s = record { setting = s.setting; idle_wait = s.idle_wait; tx_wait = v; filters = s.filters; dividers = s.dividers; mask = s.mask }
keeps filter v s = with_filters (record { filter = v; filter1 = s.filters.filter1; filter2 = s.filters.filter2 }) s
keeps filter1 v s = with_filters (record { filter = s.filters.filter; filter1 = v; filter2 = s.filters.filter2 }) s
keeps filter2 v s = with_filters (record { filter = s.filters.filter; filter1 = s.filters.filter1; filter2 = v }) s
keeps (divider k) v s = record { setting = s.setting; idle_wait = s.idle_wait; tx_wait = s.tx_wait; filters = s.filters; dividers = slice_set s.dividers k v; mask = s.mask }
keeps int_mask v s = record { setting = s.setting; idle_wait = s.idle_wait; tx_wait = s.tx_wait; filters = s.filters; dividers = s.dividers; mask = v }

-- one byte written to a register; those that are read only are never written
abbrev pub writes : Register → ℕ → Controller → Controller
writes version v c = c
writes (stored s) v c = with_settings (keeps s v c.settings) c
writes int_flag v c = c
writes rx v c = c
writes tx v c = with_tx (stores v c.tx) c
writes rx_ctrl v c = with_rx (rx_control v c.rx) c
writes tx_ctrl v c = with_tx (tx_control v c.tx) c
writes rx_addr v c = with_rx (addressed v c.rx) c
writes rx_page_flag v c = c

-- a burst is its bytes, one after the other
unfoldable pub writes_all : Register → List ℕ → Controller → Controller
writes_all r [] c = c
writes_all r (v ∷ vs) c = writes_all r vs (writes r v c)

-- a START that would be taken with a length byte that no frame has
abbrev pub starts_too_long : ℕ → Transmitter → Bool
starts_too_long v t = takes_start (has v 1) t && nat_lt max_data (length_byte t.written)

-- which values a register admits
abbrev pub admits : Register → ℕ → Controller → Bool
admits version v c = false
admits (stored s) v c = admits_stored s v
admits int_flag v c = false
admits rx v c = false
admits tx v c = true
admits rx_ctrl v c = admits_control v
admits tx_ctrl v c = admits_control v && not (starts_too_long v c.tx)
admits rx_addr v c = true
admits rx_page_flag v c = false

-- ---- reading

-- idle: at least IDLE_WAIT_LEN levels 1 since the last 0
unfoldable pub idle : Controller → Bool
idle c = nat_le c.settings.idle_wait c.rx.ones

-- INT_FLAG, bit 0 first
abbrev pub int_flags : Controller → ℕ
int_flags c =
    bit (idle c) + 2 * bit (is_ready c.rx.ring) + 4 * bit c.rx.rx_lost + 8 * bit c.rx.rx_error
    + 16 * bit (is_free c.tx.state) + 32 * bit c.tx.tx_cd + 64 * bit c.tx.tx_error

-- INT_N is low when INT_FLAG and INT_MASK share a 1
abbrev pub interrupts : Controller → Bool
interrupts c = not (bit_and (int_flags c) c.settings.mask == 0)

-- the value of a stored register
abbrev pub kept : Stored → Settings → ℕ
kept setting s = s.setting
kept idle_wait_len s = s.idle_wait
kept tx_wait_len s = s.tx_wait
kept filter s = s.filters.filter
kept filter1 s = s.filters.filter1
kept filter2 s = s.filters.filter2
kept (divider k) s = slice_index s.dividers k
kept int_mask s = s.mask

-- the byte that a register gives; those that are write only are never read
abbrev pub gives : Register → Controller → ℕ
gives version c = 0x07
gives (stored s) c = kept s c.settings
gives int_flag c = int_flags c
gives rx c = slice_index (read_page c.rx.ring).bytes c.rx.address
gives tx c = 0
gives rx_ctrl c = 0
gives tx_ctrl c = 0
gives rx_addr c = c.rx.address
gives rx_page_flag c = (read_page c.rx.ring).flag

-- what reading leaves behind: RX steps RX_ADDR on from 255 to 0, and no other register changes anything
abbrev pub leaves : Register → Controller → Controller
leaves version c = c
leaves (stored s) c = c
leaves int_flag c = c
leaves rx c = with_rx (stepped c.rx) c
leaves tx c = c
leaves rx_ctrl c = c
leaves tx_ctrl c = c
leaves rx_addr c = c
leaves rx_page_flag c = c

-- the bytes of n register reads
unfoldable pub gives_all : Register → ℕ → Controller → List ℕ
gives_all r zero c = []
gives_all r (suc n) c = gives r c ∷ gives_all r n (leaves r c)

-- what n register reads leave behind
unfoldable pub leaves_all : Register → ℕ → Controller → Controller
leaves_all r zero c = c
leaves_all r (suc n) c = leaves_all r n (leaves r c)
