-- A worked run, lawful and computed: the laws do not speak of ranges in which nothing happens.
use Rattle.std.proofs.Common.{◌≡◌, ℕ, ◌+◌, true, inl, inr, List, [], ◌∷◌, ◌++◌, Option, Some, None, Ok, Err, cond, nat_lt, nat_le, refl, ap, ◌∙◌, arith}
use Rattle.std.specs.Ordering.{nat_cmp}
use Rattle.std.specs.FinMap.{empty, get, insert, get-empty}
use Rattle.rp_base.specs.Splits.{first_desc}
use Rattle.rp_base.specs.declared.ids.CmdId.{CmdId}
use Rattle.rp_base.specs.declared.ranges.Desc.{Desc}
use Rattle.rp_base.specs.Values.{is_text, number_in}
use Rattle.rp_base.specs.declared.values.Value.{Value}
use Rattle.rp_base.specs.declared.values.Value.TheVariants.{Number}
use Rattle.rp_request.specs.declared.outcomes.Refusal.TheVariants.{IsText, Overflow}
use Rattle.rp_base.specs.Tables.{Table, greatest, from_on}
use Rattle.rp_request.specs.Effect.{writes}
use Rattle.rp_request.proofs.Tables.{get_kept, get_inserted}
use Rattle.rp_request.specs.Evaluations.{evaluated, with_batch}
use Rattle.rp_request.specs.declared.commands.Op.TheVariants.{Set}
use Rattle.rp_request.specs.declared.commands.Command.{Command}
use Rattle.rp_request.specs.declared.commands.Payload.TheVariants.{Nothing, Write}
use Rattle.rp_request.specs.declared.items.Place.TheVariants as places
use Rattle.rp_request.specs.declared.items.Record.TheVariants as records
use Rattle.rp_request.specs.declared.items.Why.TheVariants as reasons
use Rattle.rp_request.specs.declared.outcomes.Reply.TheVariants.{Old, Now, Range}
use Rattle.rp_request.specs.declared.requests.Request.TheVariants.{Put, Add, Split}
use Rattle.rp_request.specs.Applied.{command_verdict, records_of}
use Rattle.rp_rangesafe.specs.Attempts.{Body, Success, Overtaken, Attempt, Attempts, IsPending, with_attempt, at_node}
use Rattle.rp_rangesafe.specs.World.{Admit, Flush, Commit, Apply, Snapshot, Restart, with_node}
use Rattle.rp_rangesafe.specs.Ranges.{Ranges, Turned, at_first, Step, In, Turn_away, after_step, AreLawful, after_steps, AreReached, with_owner, lists}
use Rattle.rp_rangesafe.proofs.Tables.{at_attempt}

abbrev pub one : CmdId
one = record { client = 1; seq = 1; attempt = 1 }

abbrev pub two : CmdId
two = record { client = 1; seq = 2; attempt = 1 }

abbrev pub two_again : CmdId
two_again = record { client = 1; seq = 2; attempt = 2 }

abbrev pub three : CmdId
three = record { client = 2; seq = 1; attempt = 1 }

abbrev pub put_body : Body
put_body = record { request = Put 9 (Number 7); batch = Set 9 (Number 7) ∷ []; reply = Old None }

abbrev split_body : Body
split_body = record { request = Split 5; batch = []; reply = Range 1 }

abbrev add_body : Body
add_body = record { request = Add 9 1; batch = Set 9 (Number 8) ∷ []; reply = Now 8 }

-- an attempt with this maximum, under the first lease sequence
abbrev pub made : CmdId → Body → ℕ → Command
made id body max = record { id = id; request = body.request; batch = body.batch; reply = body.reply; seq = 1; max = max }

-- node 1 admits a put, which is committed twice behind an entry Nothing, and applies all three
abbrev put_steps : List Step
put_steps =
    In 0 (Admit one 1 put_body) ∷ In 0 (Flush one 1) ∷ In 0 (Commit Nothing) ∷ In 0 (Commit (Write (made one put_body 1))) ∷ In 0 (Commit (Write (made one put_body 1)))
    ∷ In 0 (Apply 1) ∷ In 0 (Apply 1) ∷ In 0 (Apply 1) ∷ []

-- a split is turned away, admitted at the second attempt, and opens range 1
abbrev split_steps : List Step
split_steps =
    Turn_away two ∷ In 0 (Admit two_again 1 split_body) ∷ In 0 (Flush two_again 2) ∷ In 0 (Commit (Write (made two_again split_body 2))) ∷ In 0 (Apply 1) ∷ []

-- in range 1 a snapshot overtakes an add
abbrev add_steps : List Step
add_steps = In 1 (Admit three 1 add_body) ∷ In 1 (Flush three 1) ∷ In 1 (Commit (Write (made three add_body 1))) ∷ In 1 (Snapshot 1 1) ∷ In 1 (Restart 1) ∷ []

abbrev all_steps : List Step
all_steps = put_steps ++ split_steps ++ add_steps

abbrev end : Ranges
end = after_steps at_first all_steps

put_succeeds : ((end.range 0).attempt one).stage ≡ Success (Old None)
unfolding with_attempt at_node with_node with_owner command_verdict
put_succeeds = refl

split_succeeds : ((end.range 0).attempt two_again).stage ≡ Success (Range 1)
unfolding with_attempt at_node with_node with_owner command_verdict
split_succeeds = refl

add_is_overtaken : ((end.range 1).attempt three).stage ≡ Overtaken 1 1
unfolding with_attempt at_node with_node with_owner command_verdict
add_is_overtaken = refl

records_left : records_of (end.range 0).start (end.range 0).log
    ≡ records.Passed reasons.Nothing ∷ records.Took (places.Write one (Put 9 (Number 7)) 1 (Old None)) ∷ records.Passed reasons.OldIndex ∷ records.Took (places.Split two_again 5 1 1) ∷ []
unfolding with_attempt at_node with_node with_owner command_verdict
records_left = refl

list_of_the_right : lists end 1 ≡ places.Write three (Add 9 1) 1 (Now 8) ∷ []
unfolding with_attempt at_node with_node with_owner command_verdict
list_of_the_right = refl

right_is_there : end.opened 1 ≡ true
unfolding with_attempt at_node with_node with_owner command_verdict
right_is_there = refl

turned_away : end.owner two ≡ Turned
unfolding with_attempt at_node with_node with_owner command_verdict
turned_away = refl

-- nobody else is pending where the attempts that were changed are not
pub settled : (f : Attempts) (id : CmdId) (a : Attempt) → (IsPending a.stage → ⊥) → ((q : CmdId) → (q ≡ id → ⊥) → IsPending (f q).stage → ⊥)
    → (q : CmdId) → IsPending (with_attempt f id a q).stage → ⊥
settled f id a h k = at_attempt (λ q x. IsPending x.stage → ⊥) f id a h k

pub past : (f : Attempts) (id : CmdId) (a : Attempt) → ((q : CmdId) → (q ≡ id → ⊥) → IsPending (f q).stage → ⊥)
    → (q : CmdId) → (q ≡ id → ⊥) → IsPending (with_attempt f id a q).stage → ⊥
past f id a k = at_attempt (λ q x. (q ≡ id → ⊥) → IsPending x.stage → ⊥) f id a (λ ne. absurd (ne refl)) (λ q _. k q)

abbrev after_put : Ranges
after_put = after_steps at_first put_steps

-- the put has ended
none_pending : (q : CmdId) → IsPending ((after_put.range 0).attempt q).stage → ⊥
unfolding with_attempt at_node with_node command_verdict
none_pending = settled _ one _ (λ h. h) (past _ one _ (past _ one _ (past _ one _ (λ q ne h. h))))

pub put_evaluates : (d : Desc)
    → evaluated empty d (Put 9 (Number 7)) ≡ Ok (record { batch = Set 9 (Number 7) ∷ []; reply = Old None })
put_evaluates d = ap (λ o. Ok (record { batch = Set 9 (Number 7) ∷ []; reply = Old o })) (get-empty nat_cmp 9)

-- an add reads its key alone
pub add_reads : (t : Table) (d : Desc) (o : Option Value) → get t 9 ≡ o
    → evaluated t d (Add 9 1) ≡ with_batch (Set 9 (Number (number_in o + 1)) ∷ [])
    (cond (is_text o) (Err (IsText 9)) (cond (nat_lt greatest (number_in o + 1)) (Err (Overflow (number_in o)))
    (writes (insert t 9 (Number (number_in o + 1))) d (Now (number_in o + 1)))))
add_reads t d o e = ap (λ v. with_batch (Set 9 (Number (number_in v + 1)) ∷ [])
    (cond (is_text v) (Err (IsText 9)) (cond (nat_lt greatest (number_in v + 1)) (Err (Overflow (number_in v)))
    (writes (insert t 9 (Number (number_in v + 1))) d (Now (number_in v + 1)))))) e

add_evaluates : (t : Table) (d : Desc) → get t 9 ≡ Some (Number 7)
    → evaluated t d (Add 9 1) ≡ Ok (record { batch = Set 9 (Number 8) ∷ []; reply = Now 8 })
add_evaluates t d e = add_reads t d (Some (Number 7)) e

-- the value that the right range has
value_there : get (from_on (insert empty 9 (Number 7)) 5) 9 ≡ Some (Number 7)
value_there = get_kept (insert empty 9 (Number 7)) (λ k. nat_le 5 k) 9 ∙ get_inserted empty 9 (Number 7) 9

put_lawful : AreLawful at_first put_steps
unfolding with_attempt at_node with_node with_owner command_verdict
put_lawful = (record { there = refl; lawful = record { new = refl; live = refl; holds = refl; passed = omega arith; evaluates = record { bounded = refl; evaluation = put_evaluates first_desc }; latched = λ q h. absurd h }; begins = record { new = refl; turn = inl refl } }, (record { there = refl; lawful = (refl, omega arith); begins = tt }, (record { there = refl; lawful = tt; begins = tt }, (record { there = refl; lawful = record { seq = refl; request = refl; batch = refl; reply = refl; max = inl refl }; begins = tt }, (record { there = refl; lawful = record { seq = refl; request = refl; batch = refl; reply = refl; max = inl refl }; begins = tt }, (record { there = refl; lawful = (refl, omega arith); begins = tt }, (record { there = refl; lawful = (refl, omega arith); begins = tt }, (record { there = refl; lawful = (refl, omega arith); begins = tt }, tt))))))))

split_lawful : AreLawful (after_steps at_first put_steps) split_steps
unfolding with_attempt at_node with_node with_owner command_verdict
split_lawful = (record { new = refl; turn = inl refl }, (record { there = refl; lawful = record { new = refl; live = refl; holds = refl; passed = omega arith; evaluates = record { bounded = refl; evaluation = refl }; latched = λ q h. absurd (none_pending q h) }; begins = record { new = refl; turn = inr (omega arith, tt) } }, (record { there = refl; lawful = (refl, omega arith); begins = tt }, (record { there = refl; lawful = record { seq = refl; request = refl; batch = refl; reply = refl; max = inl refl }; begins = tt }, (record { there = refl; lawful = (refl, omega arith); begins = tt }, tt)))))

add_lawful : AreLawful (after_steps at_first (put_steps ++ split_steps)) add_steps
unfolding with_attempt at_node with_node with_owner command_verdict
add_lawful = (record { there = refl; lawful = record { new = refl; live = refl; holds = refl; passed = omega arith; evaluates = record { bounded = refl; evaluation = add_evaluates _ _ value_there }; latched = λ q h. absurd h }; begins = record { new = refl; turn = inl refl } }, (record { there = refl; lawful = (refl, omega arith); begins = tt }, (record { there = refl; lawful = record { seq = refl; request = refl; batch = refl; reply = refl; max = inl refl }; begins = tt }, (record { there = refl; lawful = record { live = refl; onward = omega arith; within = omega arith }; begins = tt }, (record { there = refl; lawful = refl; begins = tt }, tt)))))

pub joined : (w : Ranges) (xs ys : List Step) → AreLawful w xs → AreLawful (after_steps w xs) ys → AreLawful w (xs ++ ys)
joined w [] ys h k = k
joined w (x ∷ xs) ys h k = (h.0, joined (after_step w x) xs ys h.1 k)

-- the run is lawful
lawful : AreLawful at_first all_steps
lawful = joined at_first put_steps (split_steps ++ add_steps) put_lawful (joined (after_steps at_first put_steps) split_steps add_steps split_lawful add_lawful)

end_reached : AreReached end
end_reached = record { steps = all_steps; lawful = lawful; reached = refl }
