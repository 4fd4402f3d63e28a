-- The other calls on a table: a new table, a run until an interrupt, a look at the read page.
use Rattle.std.specs.Prelude.{◌≡◌, ℕ, zero, suc, ◌-◌, ◌<◌, ◌≤◌, min, true, false, cond, not, ◌⊎◌, List, [], ◌∷◌, ◌++◌, length, take, drop, replicate, ◌==◌}
use Rattle.model.specs.Controller.{page_size, Table, new, read_page}
use Rattle.model.specs.RegisterRule.{is_ready, interrupts}
use Rattle.model.specs.Operations.{bit_time, at, sized, first_of, refuses_controller, put_into, done}

-- ---- a new table

-- 1: a table of 0 or more than 16 places
unfoldable pub refuses_new : Table → ℕ
refuses_new t = cond (sized t) 0 1

-- a table of n new controllers
unfoldable pub new_table : ℕ → Table
new_table n = replicate n new

-- the table after it is made new; a refusal leaves it as found
unfoldable pub renewed : Table → Table
renewed t = cond (refuses_new t == 0) (new_table (length t)) t

-- ---- run

-- 1 and 2, as for each call that names a controller
unfoldable pub refuses_run : ℕ → Table → ℕ
refuses_run k t = first_of (refuses_controller k t)

-- n unpulled bit times
abbrev pub later : ℕ → Table → Table
later zero t = t
later (suc n) t = later n (done (bit_time false) t)

-- n is the least number of unpulled bit times after which controller k's INT_N is low, or the limit if that comes first
pub record Runs (k limit : ℕ) (t : Table) (n : ℕ) : Type 0 where
  pub within : n ≤ limit
  pub stops : (interrupts (at (later n t) k) ≡ true) ⊎ (n ≡ limit)
  pub least : (m : ℕ) → m < n → interrupts (at (later m t) k) ≡ false

-- the table after a run that made n bit times; a refusal leaves it as found
unfoldable pub after_run : ℕ → ℕ → Table → Table
after_run k n t = cond (refuses_run k t == 0) (later n t) t

-- ---- look

-- 9: no page ready
unfoldable pub refuses_look : ℕ → Table → ℕ
refuses_look k t = first_of (refuses_controller k t ++ ((not (is_ready (at t k).rx.ring), 9) ∷ []))

-- the bytes of the read page from a place on, until a buffer of so many places is full or place 255 was read
unfoldable pub looked : ℕ → ℕ → Table → ℕ → List ℕ
looked k place t buffer = take (min buffer (page_size - place)) (drop place (read_page (at t k).rx.ring).bytes)

-- how many bytes a look answers
unfoldable pub look_count : ℕ → ℕ → Table → ℕ → ℕ
look_count k place t buffer = length (looked k place t buffer)

-- the buffer after a look, from its place 0 on; a refusal leaves it as found, and the table stays either way
unfoldable pub buffer_looked : ℕ → ℕ → Table → List ℕ → List ℕ
buffer_looked k place t buffer = cond (refuses_look k t == 0) (put_into buffer 0 (looked k place t (length buffer))) buffer
