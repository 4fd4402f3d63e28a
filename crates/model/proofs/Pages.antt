-- What every history keeps: the number of controllers, and TX pages of 256 bytes.
use Rattle.std.proofs.Common.{◌≡◌, ℕ, zero, suc, Bool, true, false, cond, List, [], ◌∷◌, map, length, set, refl, ◌∙◌}
use Rattle.std.proofs.lemmas.List.{length-set, length-map, length-replicate}
use Rattle.model.specs.Registers.{Register, version, stored, int_flag, rx, tx, rx_ctrl, tx_ctrl, rx_addr, rx_page_flag, register_of}
use Rattle.model.specs.Controller.{page_size, Controller, Table, new}
use Rattle.model.specs.RegisterRule.{takes_start, zeroes_pointer, writes, writes_all, leaves, leaves_all, tx_control}
use Rattle.model.specs.Bits.{has}
use Rattle.model.specs.BitTime.{begun, transmits, ticked, line_level}
use Rattle.model.specs.Operations.{Operation, write, read, bit_time, malformed, at, accepted, done, then}
use Rattle.model.specs.Calls.{new_table}
use Rattle.model.specs.Histories.{after_all}

-- both TX pages have 256 bytes
pub record Paged (c : Controller) : Type 0 where
  pub written : length c.tx.written ≡ page_size
  pub other : length c.tx.other ≡ page_size

-- ---- one controller

new-paged : Paged new
unfolding new
new-paged = record { written = refl; other = refl }

either_length : (b : Bool) (xs ys : List ℕ) → length xs ≡ page_size → length ys ≡ page_size → length (cond b xs ys) ≡ page_size
either_length true xs ys ex ey = ex
either_length false xs ys ex ey = ey

writes-paged : (r : Register) (v : ℕ) (c : Controller) → Paged c → Paged (writes r v c)
unfolding tx_control
writes-paged version v c p = p
writes-paged (stored s) v c p = record { written = p.written; other = p.other }
writes-paged int_flag v c p = p
writes-paged rx v c p = p
writes-paged tx v c p = record { written = length-set c.tx.written c.tx.pointer v ∙ p.written; other = p.other }
writes-paged rx_ctrl v c p = record { written = p.written; other = p.other }
writes-paged tx_ctrl v c p =
    let b = takes_start (has v 1) (zeroes_pointer (has v 0) c.tx) in
    record {
      written = either_length b c.tx.other c.tx.written p.other p.written;
      other = either_length b c.tx.written c.tx.other p.written p.other;
    }
writes-paged rx_addr v c p = record { written = p.written; other = p.other }
writes-paged rx_page_flag v c p = p

writes_all-paged : (r : Register) (vs : List ℕ) (c : Controller) → Paged c → Paged (writes_all r vs c)
unfolding writes_all
writes_all-paged r [] c p = p
writes_all-paged r (v ∷ vs) c p = writes_all-paged r vs (writes r v c) (writes-paged r v c p)

leaves-paged : (r : Register) (c : Controller) → Paged c → Paged (leaves r c)
leaves-paged version c p = p
leaves-paged (stored s) c p = p
leaves-paged int_flag c p = p
leaves-paged rx c p = record { written = p.written; other = p.other }
leaves-paged tx c p = p
leaves-paged rx_ctrl c p = p
leaves-paged tx_ctrl c p = p
leaves-paged rx_addr c p = p
leaves-paged rx_page_flag c p = p

leaves_all-paged : (r : Register) (n : ℕ) (c : Controller) → Paged c → Paged (leaves_all r n c)
unfolding leaves_all
leaves_all-paged r zero c p = p
leaves_all-paged r (suc n) c p = leaves_all-paged r n (leaves r c) (leaves-paged r c p)

ticked-paged : (level : Bool) (c : Controller) → Paged c → Paged (ticked level c)
unfolding ticked transmits begun
ticked-paged level c p = record { written = p.written; other = p.other }

-- ---- a table

-- each controller of a table has such pages
abbrev pub AllPaged : Table → Type 0
AllPaged t = (j : ℕ) → Paged (at t j)

set-paged : (t : Table) (k : ℕ) (c : Controller) → AllPaged t → Paged c → AllPaged (set t k c)
set-paged [] k c all p j = all j
set-paged (x ∷ xs) zero c all p zero = p
set-paged (x ∷ xs) zero c all p (suc j) = all (suc j)
set-paged (x ∷ xs) (suc k) c all p zero = all zero
set-paged (x ∷ xs) (suc k) c all p (suc j) = set-paged xs k c (λ i. all (suc i)) p j

map-paged : (level : Bool) (t : Table) → AllPaged t → AllPaged (map (ticked level) t)
map-paged level [] all j = new-paged
map-paged level (x ∷ xs) all zero = ticked-paged level x (all zero)
map-paged level (x ∷ xs) all (suc j) = map-paged level xs (λ i. all (suc i)) j

done-paged : (o : Operation) (t : Table) → AllPaged t → AllPaged (done o t)
unfolding done
done-paged (write k r vs) t all = set-paged t k (writes_all (register_of r) vs (at t k)) all (writes_all-paged (register_of r) vs (at t k) (all k))
done-paged (read k r n place buffer) t all = set-paged t k (leaves_all (register_of r) n (at t k)) all (leaves_all-paged (register_of r) n (at t k) (all k))
done-paged (bit_time pulled) t all = map-paged (line_level pulled t) t all
done-paged (malformed k fault) t all = all

done-length : (o : Operation) (t : Table) → length (done o t) ≡ length t
unfolding done
done-length (write k r vs) t = length-set t k (writes_all (register_of r) vs (at t k))
done-length (read k r n place buffer) t = length-set t k (leaves_all (register_of r) n (at t k))
done-length (bit_time pulled) t = length-map t (ticked (line_level pulled t))
done-length (malformed k fault) t = refl

-- ---- a history

-- what a refused and a done operation leave holds after an operation
then-either : (P : Table → Type 0) (o : Operation) (t : Table) → P t → P (done o t) → P (then o t)
unfolding then
then-either P o t stays moves = pick (accepted o t)
  where
    pick : (b : Bool) → P (cond b (done o t) t)
    pick true = moves
    pick false = stays

pub after_all-paged : (os : List Operation) (t : Table) → AllPaged t → AllPaged (after_all os t)
after_all-paged [] t all = all
after_all-paged (o ∷ os) t all = after_all-paged os (then o t) (then-either AllPaged o t all (done-paged o t all))

pub after_all-length : (os : List Operation) (t : Table) → length (after_all os t) ≡ length t
after_all-length [] t = refl
after_all-length (o ∷ os) t =
    after_all-length os (then o t) ∙ then-either (λ u. length u ≡ length t) o t refl (done-length o t)

pub new_table-paged : (n : ℕ) → AllPaged (new_table n)
unfolding new_table
new_table-paged zero j = new-paged
new_table-paged (suc n) zero = new-paged
new_table-paged (suc n) (suc j) = new_table-paged n j

pub new_table-length : (n : ℕ) → length (new_table n) ≡ n
unfolding new_table
new_table-length n = length-replicate n new
