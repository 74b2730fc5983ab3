-- Texts are read and written where one is held.
use Rattle.std.proofs.Common.{◌≡◌, Bool, true, false, ◌||◌, refl}

-- where a text is held, texts are read and written
abbrev pub Suits : (texts held : Bool) → Type 0
Suits texts held = held ≡ true → texts ≡ true

pub no_text : (texts : Bool) → Suits texts false
no_text texts h = absurd cc

pub suits_both : (texts a b : Bool) → Suits texts a → Suits texts b → Suits texts (a || b)
suits_both texts true b ha hb h = ha refl
suits_both texts false b ha hb h = hb h

pub suits_left : (texts a b : Bool) → Suits texts (a || b) → Suits texts a
suits_left texts true b h e = h refl
suits_left texts false b h e = absurd cc

pub suits_right : (texts a b : Bool) → Suits texts (a || b) → Suits texts b
suits_right texts true b h e = h refl
suits_right texts false b h e = h e
