-- What contracts see of a list that grows: the list, and how many items it takes without memory.
use Rattle.std.specs.Prelude.{ℕ, List, refl}
use Rattle.std.specs.Coded.{Coded, code_by, coded×, coded_list, coded_ℕ}

pub record Kept (T : Type 0) : Type 0 where
  pub list : List T
  pub spare : ℕ

-- such a pair is stored as the pair of its fields
abbrev pub kept_code : {T : Type 0} → Coded T → Coded (Kept T)
kept_code {T} t =
    code_by (List T × ℕ) (coded× (coded_list t) coded_ℕ) (λ k. (k.list, k.spare)) (λ p. record { list = p.0; spare = p.1 }) (λ _. refl)
