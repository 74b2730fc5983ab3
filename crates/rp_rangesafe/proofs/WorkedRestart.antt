-- A worked run with a restart, lawful and computed: the node that holds the lease passes its own
-- barrier by an ask of tick 0, and admits again under the next sequence, a second attempt among
-- others, while what it proposed before may still be committed.
use Rattle.std.proofs.Common.{◌≡◌, ℕ, ◌==◌, inl, inr, List, [], ◌∷◌, ◌++◌, None, Ok, refl, ap, arith}
use Rattle.std.proofs.lemmas.Bool.Decides.{nat_tests}
use Rattle.std.specs.Ordering.{nat_cmp}
use Rattle.std.specs.FinMap.{empty, get-empty}
use Rattle.rp_base.specs.Splits.{first_desc}
use Rattle.rp_base.specs.declared.ids.CmdId.{CmdId}
use Rattle.rp_base.specs.declared.leases.LeaseAsk.{LeaseAsk}
use Rattle.rp_base.specs.declared.ranges.Desc.{Desc}
use Rattle.rp_base.specs.declared.values.Value.TheVariants.{Number}
use Rattle.rp_request.specs.Applied.{command_verdict, asked, records_of}
use Rattle.rp_request.specs.Covers.{covers, Apart}
use Rattle.rp_request.specs.Evaluations.{evaluated}
use Rattle.rp_request.specs.declared.commands.Command.{Command}
use Rattle.rp_request.specs.declared.commands.Op.TheVariants.{Set}
use Rattle.rp_request.specs.declared.commands.Payload.TheVariants.{Write, Lease}
use Rattle.rp_request.specs.declared.items.Place.TheVariants as places
use Rattle.rp_request.specs.declared.items.Record.TheVariants as records
use Rattle.rp_request.specs.declared.items.Why.TheVariants as reasons
use Rattle.rp_request.specs.declared.outcomes.Reply.TheVariants.{Old, Now}
use Rattle.rp_request.specs.declared.requests.Request.{Request}
use Rattle.rp_request.specs.declared.requests.Request.TheVariants.{Put, Add}
use Rattle.rp_rangesafe.specs.Attempts.{Body, Stage, Unborn, Waiting, Proposed, Success, Refused, Overtaken, Removed, Restarted, Attempt, Attempts, IsPending, handed_out, with_attempt, at_node}
use Rattle.rp_rangesafe.specs.World.{Admit, Flush, Commit, Apply, Restart, MayAdmit, admitted, restarted, with_node}
use Rattle.rp_rangesafe.specs.Ranges.{Ranges, at_first, Step, In, AreLawful, after_steps, AreReached, with_owner}
use Rattle.rp_rangesafe.proofs.Tables.{at_attempt, at_nodes}
use Rattle.rp_rangesafe.proofs.Worked.{one, two, two_again, three, put_body, made, past, put_evaluates, add_reads, joined}

-- a put of another key, and an add of the first one on a table with no key
abbrev other_put : Body
other_put = record { request = Put 8 (Number 5); batch = Set 8 (Number 5) ∷ []; reply = Old None }

abbrev first_add : Body
first_add = record { request = Add 9 1; batch = Set 9 (Number 1) ∷ []; reply = Now 1 }

-- an attempt with this maximum, under the second lease sequence
abbrev made_again : CmdId → Body → ℕ → Command
made_again id body max = record { id = id; request = body.request; batch = body.batch; reply = body.reply; seq = 2; max = max }

-- the holder's own ask of tick 0
abbrev own_ask : LeaseAsk
own_ask = record { holder = 1; prev = 1; expires = 0 }

-- node 1 proposes a put, another one waits, and the node restarts
abbrev restart_steps : List Step
restart_steps = In 0 (Admit one 1 put_body) ∷ In 0 (Flush one 1) ∷ In 0 (Admit two 1 other_put) ∷ In 0 (Restart 1) ∷ []

-- its ask is committed and applied
abbrev ask_steps : List Step
ask_steps = In 0 (Commit (Lease own_ask)) ∷ In 0 (Apply 1) ∷ []

-- it admits the second attempt of the put that waited, and an add of the first key
abbrev again_steps : List Step
again_steps = In 0 (Admit two_again 1 other_put) ∷ In 0 (Admit three 1 first_add) ∷ In 0 (Flush two_again 1) ∷ In 0 (Flush three 2) ∷ []

-- the first put is committed only now, and then those two
abbrev commit_steps : List Step
commit_steps =
    In 0 (Commit (Write (made one put_body 1))) ∷ In 0 (Commit (Write (made_again two_again other_put 1)))
    ∷ In 0 (Commit (Write (made_again three first_add 2))) ∷ In 0 (Apply 1) ∷ In 0 (Apply 1) ∷ In 0 (Apply 1) ∷ []

abbrev after_restart : Ranges
after_restart = after_steps at_first restart_steps

abbrev after_ask : Ranges
after_ask = after_steps after_restart ask_steps

abbrev after_again : Ranges
after_again = after_steps after_ask again_steps

abbrev end : Ranges
end = after_steps after_again commit_steps

put_is_restarted : ((end.range 0).attempt one).stage ≡ Restarted 1
unfolding with_attempt at_node with_node with_owner command_verdict asked
put_is_restarted = refl

waiting_is_refused : ((end.range 0).attempt two).stage ≡ Refused
unfolding with_attempt at_node with_node with_owner command_verdict asked
waiting_is_refused = refl

again_succeeds : ((end.range 0).attempt two_again).stage ≡ Success (Old None)
unfolding with_attempt at_node with_node with_owner command_verdict asked
again_succeeds = refl

add_succeeds : ((end.range 0).attempt three).stage ≡ Success (Now 1)
unfolding with_attempt at_node with_node with_owner command_verdict asked
add_succeeds = refl

-- the first put is passed as of an old lease
records_left : records_of (end.range 0).start (end.range 0).log
    ≡ records.Took (places.Lease (record { holder = 1; seq = 2; expires = 40 })) ∷ records.Passed reasons.OldLease
    ∷ records.Took (places.Write two_again (Put 8 (Number 5)) 2 (Old None))
    ∷ records.Took (places.Write three (Add 9 1) 2 (Now 1)) ∷ []
unfolding with_attempt at_node with_node with_owner command_verdict asked
records_left = refl

-- before its ask is applied the node admits nothing
shut_before : (id : CmdId) (body : Body) → MayAdmit (after_restart.range 0) id 1 body → ⊥
unfolding with_attempt at_node with_node with_owner command_verdict asked
shut_before id body h = let l = h.passed in omega arith

-- what is pending at node 1 covers other keys
abbrev LeavesFree : Request → CmdId → Attempt → Type 0
LeavesFree r q a = IsPending a.stage → a.node ≡ 1 → Apart (covers r) (covers a.body.request)

keys_apart : (k l : ℕ) → (k ≡ l → ⊥) → Apart (λ q. q == k) (λ q. q == l)
keys_apart k l ne key h = grind (arith, nat_tests)

abbrev first_put : Attempt
first_put = admitted (at_first.range 0) 1 put_body

-- the put at key 9 alone is pending
free_before : (q : CmdId) → LeavesFree (Put 8 (Number 5)) q
    (((after_steps at_first (In 0 (Admit one 1 put_body) ∷ In 0 (Flush one 1) ∷ [])).range 0).attempt q)
unfolding with_node with_attempt
free_before = at_attempt (LeavesFree (Put 8 (Number 5))) (with_attempt (at_first.range 0).attempt one first_put) one
    (handed_out first_put 1) (λ h e. keys_apart 8 9 (omega arith))
    (λ q ne h e. absurd (past (at_first.range 0).attempt one first_put (λ r _ k. k) q ne h))

-- after a restart nothing is
restarted_ended : (g : Stage) → IsPending (restarted g) → ⊥
restarted_ended Unborn h = h
restarted_ended Waiting h = h
restarted_ended (Proposed own) h = h
restarted_ended (Success reply) h = h
restarted_ended Refused h = h
restarted_ended (Overtaken own passed) h = h
restarted_ended (Removed own) h = h
restarted_ended (Restarted own) h = h

none_here : (f : Attempts) (node : ℕ) (q : CmdId) → IsPending (at_node node restarted f q).stage → (at_node node restarted f q).node ≡ node → ⊥
none_here f node = at_nodes (λ q x. IsPending x.stage → x.node ≡ node → ⊥) node restarted f
    (λ q _ h e. restarted_ended (f q).stage h) (λ q ne h e. ne e)

free_after : (r : Request) (q : CmdId) → LeavesFree r q ((after_ask.range 0).attempt q)
unfolding with_node command_verdict asked
free_after r q h e = absurd (none_here _ 1 q h e)

-- the second attempt alone is
free_again : (q : CmdId) → LeavesFree (Add 9 1) q (((after_steps after_ask (In 0 (Admit two_again 1 other_put) ∷ [])).range 0).attempt q)
unfolding with_node command_verdict asked
free_again = at_attempt (LeavesFree (Add 9 1)) (after_ask.range 0).attempt two_again _ (λ h e. keys_apart 9 8 (omega arith)) (λ q _. free_after (Add 9 1) q)

other_evaluates : (d : Desc)
    → evaluated empty d (Put 8 (Number 5)) ≡ Ok (record { batch = Set 8 (Number 5) ∷ []; reply = Old None })
other_evaluates d = ap (λ o. Ok (record { batch = Set 8 (Number 5) ∷ []; reply = Old o })) (get-empty nat_cmp 8)

add_evaluates : (d : Desc) → evaluated empty d (Add 9 1) ≡ Ok (record { batch = Set 9 (Number 1) ∷ []; reply = Now 1 })
add_evaluates d = add_reads empty d None (get-empty nat_cmp 9)

restart_lawful : AreLawful at_first restart_steps
unfolding with_attempt at_node with_node with_owner command_verdict asked
restart_lawful = (
  record {
    there = refl;
    lawful = record {
      new = refl;
      live = refl;
      holds = refl;
      passed = omega arith;
      evaluates = record { bounded = refl; evaluation = put_evaluates first_desc };
      latched = λ q h. absurd h;
    };
    begins = record { new = refl; turn = inl refl };
  },
  (
    record { there = refl; lawful = (refl, omega arith); begins = tt },
    (
      record {
        there = refl;
        lawful = record {
          new = refl;
          live = refl;
          holds = refl;
          passed = omega arith;
          evaluates = record { bounded = refl; evaluation = other_evaluates first_desc };
          latched = free_before;
        };
        begins = record { new = refl; turn = inl refl };
      },
      (record { there = refl; lawful = refl; begins = tt }, tt),
    ),
  ),
)

ask_lawful : AreLawful after_restart ask_steps
unfolding with_attempt at_node with_node with_owner command_verdict asked
ask_lawful = (
  record { there = refl; lawful = omega arith; begins = tt },
  (record { there = refl; lawful = (refl, omega arith); begins = tt }, tt),
)

again_lawful : AreLawful after_ask again_steps
unfolding with_attempt at_node with_node with_owner command_verdict asked
again_lawful = (
  record {
    there = refl;
    lawful = record {
      new = refl;
      live = refl;
      holds = refl;
      passed = omega arith;
      evaluates = record { bounded = refl; evaluation = other_evaluates first_desc };
      latched = free_after (Put 8 (Number 5));
    };
    begins = record { new = refl; turn = inr (omega arith, refl) };
  },
  (
    record {
      there = refl;
      lawful = record {
        new = refl;
        live = refl;
        holds = refl;
        passed = omega arith;
        evaluates = record { bounded = refl; evaluation = add_evaluates first_desc };
        latched = free_again;
      };
      begins = record { new = refl; turn = inl refl };
    },
    (
      record { there = refl; lawful = (refl, omega arith); begins = tt },
      (record { there = refl; lawful = (refl, omega arith); begins = tt }, tt),
    ),
  ),
)

commit_lawful : AreLawful after_again commit_steps
unfolding with_attempt at_node with_node with_owner command_verdict asked
commit_lawful = (
  record { there = refl; lawful = record { seq = refl; request = refl; batch = refl; reply = refl; max = inl refl }; begins = tt },
  (
    record { there = refl; lawful = record { seq = refl; request = refl; batch = refl; reply = refl; max = inl refl }; begins = tt },
    (
      record { there = refl; lawful = record { seq = refl; request = refl; batch = refl; reply = refl; max = inl refl }; begins = tt },
      (
        record { there = refl; lawful = (refl, omega arith); begins = tt },
        (
          record { there = refl; lawful = (refl, omega arith); begins = tt },
          (record { there = refl; lawful = (refl, omega arith); begins = tt }, tt),
        ),
      ),
    ),
  ),
)

-- the run is lawful
lawful : AreLawful at_first (restart_steps ++ ask_steps ++ again_steps ++ commit_steps)
lawful = joined at_first restart_steps (ask_steps ++ again_steps ++ commit_steps) restart_lawful
    (joined after_restart ask_steps (again_steps ++ commit_steps) ask_lawful
    (joined after_ask again_steps commit_steps again_lawful commit_lawful))

end_reached : AreReached end
end_reached = record { steps = restart_steps ++ ask_steps ++ again_steps ++ commit_steps; lawful = lawful; reached = refl }
