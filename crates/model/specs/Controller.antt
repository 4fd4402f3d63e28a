-- What a controller holds.
use Rattle.std.specs.Prelude.{ℕ, ◌+◌, ◌%◌, Bool, true, false, List, [], ◌∷◌, replicate, slice_index_or}
use Rattle.model.specs.Filter.{Filters}
use Rattle.model.specs.Reading.{Reading, hunting}

-- the bytes of a page
abbrev pub page_size : ℕ
page_size = 256

-- the RX pages of a controller
abbrev pub rx_pages : ℕ
rx_pages = 8

-- the values of the registers that keep what is written
pub record Settings : Type 0 where
  pub setting : ℕ
  pub idle_wait : ℕ
  pub tx_wait : ℕ
  pub filters : Filters
  pub dividers : List ℕ
  pub mask : ℕ

-- no page waits; one waits; or it is being sent, with the number of levels driven so far
pub data TransmitState : Type 0 where
  free : TransmitState
  waiting : TransmitState
  sending : ℕ → TransmitState

-- the sending half, with its two pages
pub record Transmitter : Type 0 where
  pub written : List ℕ  -- the page that TX writes
  pub other : List ℕ  -- the other page: if one waits, this one does
  pub pointer : ℕ  -- where TX writes next
  pub state : TransmitState
  pub conflicts : ℕ
  pub tx_cd : Bool
  pub tx_error : Bool

-- an RX page, as it was last filled
pub record Page : Type 0 where
  pub bytes : List ℕ
  pub flag : ℕ  -- 0 for a right frame, else the place of a broken frame's last byte, at most 255

-- the RX pages in a ring: the read page and those after it are ready, as many as are marked; the next is filled
pub record PageRing : Type 0 where
  pub pages : List Page
  pub read : ℕ
  pub ready : ℕ

-- the receiving half
pub record Receiver : Type 0 where
  pub ring : PageRing
  pub address : ℕ  -- RX_ADDR
  pub rx_lost : Bool
  pub rx_error : Bool
  pub reading : Reading
  pub ones : ℕ  -- levels 1 since the last 0

-- all of it
pub record Controller : Type 0 where
  pub settings : Settings
  pub tx : Transmitter
  pub rx : Receiver

-- the controllers on one line, by their numbers
abbrev pub Table : Type 0
Table = List Controller

-- a page of zeros, never filled
abbrev pub empty_page : Page
empty_page = record { bytes = replicate page_size 0; flag = 0 }

-- ---- as it is when the table is made

-- the values that the stored registers have then
abbrev pub new_settings : Settings
new_settings = record {
  setting = 0x10;
  idle_wait = 10;
  tx_wait = 20;
  filters = record { filter = 0xFF; filter1 = 0xFF; filter2 = 0xFF };
  dividers = 0x5A ∷ 0x01 ∷ 0x5A ∷ 0x01 ∷ [];
  mask = 0;
}

-- no page waits
abbrev pub new_transmitter : Transmitter
new_transmitter = record {
  written = replicate page_size 0;
  other = replicate page_size 0;
  pointer = 0;
  state = free;
  conflicts = 0;
  tx_cd = false;
  tx_error = false;
}

-- no page is ready, and page 0 is read and filled first
abbrev pub new_ring : PageRing
new_ring = record { pages = replicate rx_pages empty_page; read = 0; ready = 0 }

-- the receiver hunts
abbrev pub new_receiver : Receiver
new_receiver = record { ring = new_ring; address = 0; rx_lost = false; rx_error = false; reading = hunting; ones = 0 }

-- all of it
unfoldable pub new : Controller
new = record { settings = new_settings; tx = new_transmitter; rx = new_receiver }

-- ---- looking at a controller

-- no page waits
abbrev pub is_free : TransmitState → Bool
is_free free = true
is_free waiting = false
is_free (sending p) = false

-- a page waits and is not being sent
abbrev pub is_waiting : TransmitState → Bool
is_waiting free = false
is_waiting waiting = true
is_waiting (sending p) = false

-- the page after page p
abbrev pub next_page : ℕ → ℕ
next_page p = (p + 1) % rx_pages

-- the page that is filled next
abbrev pub fill_page : PageRing → ℕ
fill_page g = (g.read + g.ready) % rx_pages

-- the page that RX gives bytes of
unfoldable pub read_page : PageRing → Page
read_page g = slice_index_or g.pages g.read empty_page
