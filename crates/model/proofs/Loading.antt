-- What is written to TX and STARTed is what waits.
use Rattle.std.proofs.Common.{◌≡◌, ℕ, suc, ◌+◌, ◌%◌, ◌<◌, ◌≤◌, Bool, true, false, cond, not, ◌&&◌, eqb, ltb, leb, List, [], ◌∷◌, ◌++◌, map, length, drop, set, sym, refl, ap, ◌∙◌, subst, mod-eq_of_lt, zero-add, add-one, arith}
use lib.Seq.{sets, sets-eq}
use Rattle.std.specs.List.{flat_map}
use Rattle.std.proofs.lemmas.List.{set-get_or, set-set, get_or-set_same, get_or-set_other, get_or_append_left, length-set, take_at}
use Rattle.std.proofs.lemmas.Bool.{lt-leb, le-ltb, and_right, cond-true}
use Rattle.std.proofs.lemmas.Bool.Decides.{nat_tests}
use Rattle.model.specs.Bits.{has}
use Rattle.model.specs.Frames.{length_byte, Message, frame_levels, message}
use Rattle.model.specs.Registers.{tx, tx_ctrl, tx_number, tx_ctrl_number}
use Rattle.model.specs.Controller.{page_size, waiting, Controller, Table, is_free, new}
use Rattle.model.specs.RegisterRule.{writes, writes_all, tx_control}
use Rattle.model.specs.Operations.{Operation, write, at, sized, table_size, max_burst, burst, refusal, accepted, done, then}
use Rattle.model.specs.Calls.{new_table}
use Rattle.model.specs.Histories.{after_all, Along}
use Rattle.model.specs.Loading.{loading, Bursts, Accepted, Carries, Loaded, Loading}
use Rattle.model.proofs.Bursts.{writes_all-none, writes_all-++}
use Rattle.model.proofs.Histories.{after_all-++, along-++}
use Rattle.model.proofs.Pages.{AllPaged, after_all-paged, after_all-length, new_table-paged, new_table-length}

-- ---- one controller

-- bytes to TX stand in the written page, from the write pointer on
stored : (xs : List ℕ) (c : Controller) → c.tx.pointer + length xs ≤ page_size → (writes_all tx xs c).tx.written ≡ sets c.tx.written c.tx.pointer xs
unfolding writes_all
stored [] c room = refl
stored (x ∷ []) c room = refl
stored (x ∷ (y ∷ ys)) c room =
    let p = c.tx.pointer in
    let step : (p + 1) % page_size ≡ suc p = mod-eq_of_lt (omega arith) ∙ add-one p in
    stored (y ∷ ys) (writes tx x c) (omega arith) ∙ ap (λ q. sets (set c.tx.written p x) q (y ∷ ys)) step

-- what one byte to TX leaves, many leave
kept : {X : Type 0} (part : Controller → X) → ((v : ℕ) (c : Controller) → part (writes tx v c) ≡ part c) → (xs : List ℕ) (c : Controller) → part (writes_all tx xs c) ≡ part c
unfolding writes_all
kept part one [] c = refl
kept part one (x ∷ xs) c = kept part one xs (writes tx x c) ∙ one x c

-- a page that begins with a message carries it
message-first : (m rest : List ℕ) → Message m → message (m ++ rest) ≡ m
message-first m rest is =
    let long : 2 < length m = omega (arith, is.whole) in
    take_at m rest (length_byte (m ++ rest) + 3) (is.whole ∙ ap (λ n. n + 3) (sym (get_or_append_left m rest 0 2 long)))

-- the write pointer zeroed, the bytes of a message, START
carries : (m : List ℕ) (c : Controller) → Message m → is_free c.tx.state ≡ true → length c.tx.written ≡ page_size
    → Carries m c (writes tx_ctrl 0x02 (writes_all tx m (writes tx_ctrl 0x01 c)))
unfolding tx_control has
carries m c is free page =
    let start = writes tx_ctrl 0x01 c in
    let full = writes_all tx m start in
    let room : 0 + length m ≤ length c.tx.written = omega (arith, is.small, is.whole) in
    let still : is_free full.tx.state ≡ true = ap is_free (kept (λ x. x.tx.state) (λ _ _. refl) m start) ∙ free in
    let written : full.tx.written ≡ m ++ drop (length m) c.tx.written = stored m start (omega arith)
    ∙ sets-eq m c.tx.written 0 room ∙ ap (λ n. m ++ drop n c.tx.written) (zero-add (length m)) in
    let behind = ap (λ b. cond b full.tx.written full.tx.other) still ∙ written in
    let holds = ap message behind ∙ message-first m (drop (length m) c.tx.written) is in
    record {
      waits = ap (λ b. cond b waiting full.tx.state) still;
      holds = holds;
      sends = ap frame_levels holds;
      behind = behind;
      next = ap (λ b. cond b full.tx.other full.tx.written) still ∙ kept (λ x. x.tx.other) (λ _ _. refl) m start;
      pointer = ap (λ b. cond b 0 full.tx.pointer) still;
      conflicts = kept (λ x. x.tx.conflicts) (λ _ _. refl) m start;
      tx_cd = and_true full.tx.tx_cd ∙ kept (λ x. x.tx.tx_cd) (λ _ _. refl) m start ∙ and_true c.tx.tx_cd;
      tx_error = and_true full.tx.tx_error ∙ kept (λ x. x.tx.tx_error) (λ _ _. refl) m start ∙ and_true c.tx.tx_error;
      settings = kept (λ x. x.settings) (λ _ _. refl) m start;
      rx = kept (λ x. x.rx) (λ _ _. refl) m start;
    }
  where
    and_true : (b : Bool) → (b && true) ≡ b
    and_true true = refl
    and_true false = refl

-- the length byte of what is to be STARTed
short-enough : (m : List ℕ) (c : Controller) → Message m → length c.tx.written ≡ page_size
    → length_byte (writes_all tx m (writes tx_ctrl 0x01 c)).tx.written ≤ 253
unfolding tx_control has
short-enough m c is page =
    let start = writes tx_ctrl 0x01 c in
    let rest = drop (0 + length m) c.tx.written in
    let room : 0 + length m ≤ length c.tx.written = omega (arith, is.small, is.whole) in
    let long : 2 < length m = omega (arith, is.whole) in
    let same = ap length_byte (stored m start (omega arith) ∙ sets-eq m c.tx.written 0 room) ∙ get_or_append_left m rest 0 2 long in
    omega (arith, same, is.small)

-- ---- the table

-- the tests that every write here passes
passes : (t : Table) (k : ℕ) (b : Bool) (n : ℕ) → sized t ≡ true → k < length t → b ≡ true
    → cond (not (sized t)) 1 (cond (leb (length t) k) 2 (cond (not b) n 0)) ≡ 0
passes t k b n size in_table good =
    ap (λ s. cond (not s) 1 (cond (leb (length t) k) 2 (cond (not b) n 0))) size
    ∙ ap (λ s. cond s 2 (cond (not b) n 0)) (lt-leb (length t) k in_table)
    ∙ ap (λ s. cond (not s) n 0) good

is_burst : (n : ℕ) → 1 ≤ n → n ≤ max_burst → burst true n ≡ true
is_burst n some few = grind (arith, nat_tests)

tx_accepted : (t : Table) (k : ℕ) (vs : List ℕ) → sized t ≡ true → k < length t → 1 ≤ length vs → length vs ≤ max_burst → accepted (write k tx_number vs) t ≡ true
unfolding accepted refusal
tx_accepted t k vs size in_table some few =
    ap (λ n. eqb n 0) (passes t k (burst true (length vs)) 5 size in_table (is_burst (length vs) some few))

zero_accepted : (t : Table) (k : ℕ) → sized t ≡ true → k < length t → accepted (write k tx_ctrl_number (0x01 ∷ [])) t ≡ true
unfolding accepted refusal has
zero_accepted t k size in_table = ap (λ n. eqb n 0) (passes t k true 6 size in_table refl)

start_accepted : (t : Table) (k : ℕ) → sized t ≡ true → k < length t → length_byte (at t k).tx.written ≤ 253
    → accepted (write k tx_ctrl_number (0x02 ∷ [])) t ≡ true
unfolding accepted refusal has
start_accepted t k size in_table small =
    let c = at t k in
    ap (λ n. eqb n 0) (passes t k (not (is_free c.tx.state && ltb 253 (length_byte c.tx.written))) 6 size in_table
    (ap not (and_right (is_free c.tx.state) (ltb 253 (length_byte c.tx.written)) (le-ltb 253 (length_byte c.tx.written) small))))

-- a write that is accepted is done
accepted-then : (o : Operation) (t : Table) → accepted o t ≡ true → then o t ≡ done o t
unfolding then
accepted-then o t is = cond-true (accepted o t) (done o t) t is

-- bursts to TX are their bytes, one after the other
bursts-done : (t : Table) (k : ℕ) (bs : List (List ℕ)) → sized t ≡ true → k < length t → Bursts bs
    → Along Accepted (map (write k tx_number) bs) t
    × (after_all (map (write k tx_number) bs) t ≡ set t k (writes_all tx (flat_map (λ b. b) bs) (at t k)))
unfolding done
bursts-done t k [] size in_table all = (tt, sym (ap (set t k) (writes_all-none tx (at t k)) ∙ set-get_or t k new))
bursts-done t k (b ∷ bs) size in_table all =
    let ok = tx_accepted t k b size in_table all.0 all.1 in
    let x = writes_all tx b (at t k) in
    let same : then (write k tx_number b) t ≡ set t k x = accepted-then (write k tx_number b) t ok in
    let length-same = length-set t k x in
    let rest = bursts-done (set t k x) k bs (ap table_size length-same ∙ size) (subst (λ (n : ℕ). k < n) (sym length-same) in_table) all.2 in
    let here = get_or-set_same t k x new in_table in (
      (ok, subst (λ (u : Table). Along Accepted (map (write k tx_number) bs) u) (sym same) rest.0),
      ap (after_all (map (write k tx_number) bs)) same ∙ rest.1
          ∙ set-set t k x (writes_all tx (flat_map (λ b. b) bs) (at (set t k x) k))
          ∙ ap (λ c. set t k (writes_all tx (flat_map (λ b. b) bs) c)) here
          ∙ ap (set t k) (sym (writes_all-++ tx b (flat_map (λ b. b) bs) (at t k))),
    )

-- in a table whose controller has room for the message
loaded : (t : Table) (k : ℕ) (bs : List (List ℕ)) → sized t ≡ true → k < length t → Bursts bs → Message (flat_map (λ b. b) bs)
    → is_free (at t k).tx.state ≡ true → length (at t k).tx.written ≡ page_size → Loaded k bs t
unfolding done writes_all
loaded t k bs size in_table all is free page =
    let m = flat_map (λ b. b) bs in
    let c = at t k in
    let zero = write k tx_ctrl_number (0x01 ∷ []) in
    let bursts = map (write k tx_number) bs in
    let start = write k tx_ctrl_number (0x02 ∷ []) in
    -- the write pointer is zeroed
    let one = writes tx_ctrl 0x01 c in
    let ok₁ = zero_accepted t k size in_table in
    let is₁ : then zero t ≡ set t k one = accepted-then zero t ok₁ in
    let size₁ = ap table_size (length-set t k one) ∙ size in
    let in₁ = subst (λ (n : ℕ). k < n) (sym (length-set t k one)) in_table in
    -- the bytes are written
    let two = writes_all tx m one in
    let stores = bursts-done (set t k one) k bs size₁ in₁ all in
    let is₂ : after_all bursts (set t k one) ≡ set t k two = stores.1
    ∙ set-set t k one (writes_all tx m (at (set t k one) k)) ∙ ap (λ x. set t k (writes_all tx m x)) (get_or-set_same t k one new in_table) in
    let size₂ = ap table_size (length-set t k two) ∙ size in
    let in₂ = subst (λ (n : ℕ). k < n) (sym (length-set t k two)) in_table in
    let here₂ = get_or-set_same t k two new in_table in
    -- START
    let three = writes tx_ctrl 0x02 two in
    let ok₃ = start_accepted (set t k two) k size₂ in₂ (subst (λ (x : Controller). length_byte x.tx.written ≤ 253) (sym here₂) (short-enough m c is page)) in
    let is₃ : then start (set t k two) ≡ set t k three = accepted-then start (set t k two) ok₃
    ∙ set-set t k two (writes tx_ctrl 0x02 (at (set t k two) k)) ∙ ap (λ x. set t k (writes tx_ctrl 0x02 x)) here₂ in
    let here₁₂ : after_all bursts (then zero t) ≡ set t k two = ap (after_all bursts) is₁ ∙ is₂ in
    let end : after_all (loading k bs) t ≡ set t k three = after_all-++ bursts (start ∷ []) (then zero t) ∙ ap (then start) here₁₂ ∙ is₃ in
    record {
      taken = (
        ok₁,
        along-++ Accepted bursts (start ∷ []) (then zero t)
            (subst (λ (u : Table). Along Accepted bursts u) (sym is₁) stores.0)
            (subst (λ (u : Table). accepted start u ≡ true) (sym here₁₂) ok₃, tt),
      );
      carries = subst (λ (x : Controller). Carries m c x) (sym (ap (λ (u : Table). at u k) end ∙ get_or-set_same t k three new in_table)) (carries m c is free page);
      others = λ j other. ap (λ (u : Table). at u j) end ∙ get_or-set_other t k j three new other;
    }

-- the size of a table of n places
size_of : (n : ℕ) → 1 ≤ n → n ≤ 16 → table_size n ≡ true
size_of n some few = grind (arith, nat_tests)

pub all_loaded : Loading
all_loaded n past t since k in_table free bs all is =
    let same : length t ≡ n = ap length since.is ∙ after_all-length past (new_table n) ∙ new_table-length n in
    let paged = subst AllPaged (sym since.is) (after_all-paged past (new_table n) (new_table-paged n)) in
    loaded t k bs (ap table_size same ∙ size_of n since.some since.few) (subst (λ (l : ℕ). k < l) (sym same) in_table) all is free (paged k).written
