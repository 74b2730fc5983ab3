-- Which messages are lost (this project), by draws of PCG (O'Neill, XSH RR 64/32).
use Rattle.std.specs.Prelude.{ℕ, ◌+◌, ◌%◌, ◌^◌, nat_lt, Bool}
use Rattle.rand_pcg.specs.Lcg.{Lcg, started, increment_of}
use Rattle.rand_pcg.specs.Pcg.{multiplier_64, pcg32}

-- the generator that judges one message: its state is the salt and the message's number, added
-- within 64 bits, and its stream is the sender
abbrev pub judge_of : (salt sender number : ℕ) → Lcg
judge_of salt sender number =
    started 64 multiplier_64 ((salt + number) % 2 ^ 64) (increment_of 64 sender)

-- a message is lost where the first draw, modulo 100, is below so many of a hundred
abbrev pub is_lost : (percent salt sender number : ℕ) → Bool
is_lost percent salt sender number =
    nat_lt ((pcg32 (judge_of salt sender number)).0 % 100) percent
