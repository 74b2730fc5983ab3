-- Values: what a key of a table maps to.
use Rattle.std.specs.Prelude.{ℕ, ◌^◌, ◌<◌, Bool, true, false, nat_eq, List, ◌∷◌, Option, None, Some}
use Rattle.std.specs.Cmp.Lexicographic.{pointwise}
use Rattle.std.specs.Fmt.{decimal}
use Rattle.rp_base.specs.ShortTexts.{IsText}
use Rattle.rp_base.specs.declared.values.Value.{Value}
use Rattle.rp_base.specs.declared.values.Value.TheVariants.{Number, Text}

-- a number below 2^64, or a text
abbrev pub IsValue : Value → Type 0
IsValue (Number n) = n < 2 ^ 64
IsValue (Text text) = IsText text

-- two values are one: no number is a text
abbrev pub value_eq : Value → Value → Bool
value_eq (Number m) (Number n) = nat_eq m n
value_eq (Number m) (Text text) = false
value_eq (Text text) (Number n) = false
value_eq (Text one) (Text other) = pointwise nat_eq one other

-- whether a text is there
abbrev pub is_text : Option Value → Bool
is_text None = false
is_text (Some (Number n)) = false
is_text (Some (Text text)) = true

-- the number that is there, and 0 where there is none
abbrev pub number_in : Option Value → ℕ
number_in None = 0
number_in (Some (Number n)) = n
number_in (Some (Text text)) = 0

-- how a value is spelled: a number's shortest decimal, or an apostrophe and the text's bytes
abbrev pub value_text : Value → List ℕ
value_text (Number n) = decimal n
value_text (Text text) = 39 ∷ text
