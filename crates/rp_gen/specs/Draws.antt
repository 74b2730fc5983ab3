-- Draws of PCG (O'Neill, XSH RR 64/32).
use Rattle.std.specs.Prelude.{ℕ, ◌%◌}
use Rattle.rand_pcg.specs.Lcg.{Lcg, started, increment_of}
use Rattle.rand_pcg.specs.Pcg.{multiplier_64, pcg32}

-- the generator of the script with this number: the number is its state, and 1 its stream
abbrev pub draws_of : ℕ → Lcg
draws_of number = started 64 multiplier_64 number (increment_of 64 1)

-- what is drawn below n, the next word modulo n, and the generator after it
abbrev pub picked : ℕ → Lcg → ℕ × Lcg
picked n draws = ((pcg32 draws).0 % n, (pcg32 draws).1)
