-- A request is the same as itself.
use Rattle.std.proofs.Common.{◌≡◌, ℕ, Bool, true, false, eq-eqb, Option, None, Some, refl}
use Rattle.std.specs.Prelude.{◌==◌, ◌&&◌}
use Rattle.std.specs.Option.{option_eq}
use Rattle.rp_base.specs.Values.{value_eq}
use Rattle.rp_base.specs.declared.values.Value.{Value}
use Rattle.rp_base.proofs.ValueLaws.{value_eq-Decides}
use Rattle.rp_request.specs.Requests.{same_request}
use Rattle.rp_request.specs.declared.requests.Request.{Request}
use Rattle.rp_request.specs.declared.requests.Request.TheVariants.{Put, Add, CPut, Del, Wipe, Move, Split}

pub equal_itself : (k : ℕ) → (k == k) ≡ true
equal_itself k = eq-eqb k k refl

option_itself : {A : Type 0} (eq : A → A → Bool) → ((x : A) → eq x x ≡ true) → (o : Option A) → option_eq eq o o ≡ true
option_itself eq h None = refl
option_itself eq h (Some x) = h x

value_itself : (v : Value) → value_eq v v ≡ true
value_itself v = (value_eq-Decides v v).1 refl

pub both : (a b : Bool) → a ≡ true → b ≡ true → (a && b) ≡ true
both true b e f = f
both false b e f = absurd cc

pub request_itself : (r : Request) → same_request r r ≡ true
request_itself (Put key value) = both _ _ (equal_itself key) (value_itself value)
request_itself (Add key by) = both _ _ (equal_itself key) (equal_itself by)
request_itself (CPut key expect value) = both _ _ (both _ _ (equal_itself key) (option_itself value_eq value_itself expect)) (value_itself value)
request_itself (Del key) = equal_itself key
request_itself (Wipe span) = both _ _ (equal_itself span.start) (option_itself (λ a b. a == b) equal_itself span.end)
request_itself (Move from to by) = both _ _ (both _ _ (equal_itself from) (equal_itself to)) (equal_itself by)
request_itself (Split key) = equal_itself key
