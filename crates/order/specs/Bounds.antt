-- Which bursts a frame's reading is promised to notice.
use Rattle.std.specs.Prelude.{ℕ, ◌+◌, Bool, ◌&&◌, ◌||◌, nat_le}

-- at most 16 levels, all before the length byte's first or behind its last
abbrev pub short : ℕ → ℕ → Bool
short start count = nat_le count 16 && (nat_le (start + count) 20 || nat_le 30 start)
