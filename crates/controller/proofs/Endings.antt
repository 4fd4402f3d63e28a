-- How a frame ends, as a receiver of the code sees it.
use Rattle.std.proofs.Common.{◌≡◌, ℕ, ◌≤◌, Bool, true, ◌&&◌, leb, List, length, refl, sym, ap, ap₂, arith, add-zero}
use Rattle.std.proofs.Math.Bool.{or-false}
use Rattle.std.proofs.lemmas.Bool.{and_parts, leb-true}
use Rattle.std.proofs.lemmas.Bool.Decides.{nat_tests}
use Rattle.model.specs.BitTime.{filled, noticed, wanted, end_broken, with_reading, times_out}
use Rattle.model.specs.Controller.{Settings, Receiver}
use Rattle.model.specs.Reading.{Reading, hunting, between, inside, bytes_read}

-- of a frame that has source and destination the filter alone decides
pub noticed_long : (s : Settings) (xs : List ℕ) → 2 ≤ length xs → noticed s xs ≡ wanted s xs
unfolding noticed
noticed_long s xs long = let is : leb 2 (length xs) ≡ true = grind (arith, nat_tests) in ap (λ b. b && wanted s xs) is

-- a broken frame that counts has them
pub noticed_two : (s : Settings) (xs : List ℕ) → noticed s xs ≡ true → 2 ≤ length xs
unfolding noticed
noticed_two s xs counts = leb-true 2 (length xs) (and_parts (leb 2 (length xs)) (wanted s xs) counts).0

-- one that hunts has read no byte, so nothing ends by time
ended_at : (at : Reading) (s : Settings) (r : Receiver) → times_out s at (with_reading at r) ≡ end_broken s (bytes_read at) (with_reading hunting r)
unfolding times_out end_broken noticed filled
ended_at hunting s r =
    ap₂ (λ (n : ℕ) (error : Bool). record {
      ring = record { pages = r.ring.pages; read = r.ring.read; ready = n };
      address = r.address;
      rx_lost = r.rx_lost;
      rx_error = error;
      reading = hunting;
      ones = r.ones;
    })
    (sym (add-zero r.ring.ready)) (sym (or-false r.rx_error))
ended_at (between xs) s r = refl
ended_at (inside xs n bs) s r = refl

pub timed : (s : Settings) (r : Receiver) → times_out s r.reading r ≡ end_broken s (bytes_read r.reading) (with_reading hunting r)
timed s r = ended_at r.reading s r
