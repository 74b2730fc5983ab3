-- What a worker's seat knows behind its calls (this project).
use Rattle.std.specs.Prelude.{◌≡◌, ℕ, ◌-◌, Ok}
use Rattle.rp_switch.specs.declared.switch.Taken.{Taken}
use Rattle.rp_switch.specs.Seats.{Takes}
use Rattle.rp_switch.specs.Views.{Knowledge}

-- it only noted what some exchanges told
abbrev pub IsQuiet : Knowledge → Knowledge → Type 0
IsQuiet v w = w ≡ record v { looks = w.looks }

-- behind some tries it took the node
pub record TakesAtLast {E : Type 0} (v : Knowledge) (node : ℕ) (t : Taken E) (w : Knowledge) : Type 0 where
  pub knew : Knowledge
  pub quiet : IsQuiet v knew
  pub takes : Takes knew node (Ok t) w
