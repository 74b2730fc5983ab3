use Rattle.std.specs.Prelude.{map, string_bytes}
use Rattle.rp_top.proofs.TopProof.{made_answers, made_complete, made_well, race_answers, race_complete, race_early, race_fails, race_open, race_well, refused_answers, refused_complete, run_answers, run_complete, run_early, run_fails, run_open, run_usage, run_well, unused_answers, unused_complete}
use Rattle.rp_top.proofs.tops.top_call.Goals as goal

pub returns-in-Ok-Run-clause-answers : goal.returns-in-Ok-Run-clause-answers
returns-in-Ok-Run-clause-answers g c =
    run_answers _ (map string_bytes c.args.words.now) c.run_call.result _ _ _ _ (rw c.in-Ok-Run.field-0-is at c.in-Ok-Run.ensures.ok) c.code.ensures c.run_call.ensures.answers

pub returns-in-Ok-Run-clause-headline : goal.returns-in-Ok-Run-clause-headline
returns-in-Ok-Run-clause-headline g c =
    run_well _ _ (map string_bytes c.args.words.now) c.run_call.result _ _ _ _ (rw c.in-Ok-Run.field-0-is at c.in-Ok-Run.ensures.ok) c.code.ensures c.run_call.ensures.headline
    c.run_call.ensures.end

pub returns-in-Ok-Run-clause-unfinished : goal.returns-in-Ok-Run-clause-unfinished
returns-in-Ok-Run-clause-unfinished g c = run_open _ c.run_call.result _ _ _ _ _ c.code.ensures c.run_call.ensures.answers

pub returns-in-Ok-Run-clause-usage : goal.returns-in-Ok-Run-clause-usage
returns-in-Ok-Run-clause-usage g c = run_usage c.run_call.result _ _ c.code.ensures c.run_call.ensures.usage

pub returns-in-Ok-Run-clause-early : goal.returns-in-Ok-Run-clause-early
returns-in-Ok-Run-clause-early g c =
    run_early _ _ (map string_bytes c.args.words.now) c.run_call.result _ _ (rw c.in-Ok-Run.field-0-is at c.in-Ok-Run.ensures.ok) c.code.ensures c.run_call.ensures.refused
    c.run_call.ensures.limit

pub returns-in-Ok-Run-clause-complete : goal.returns-in-Ok-Run-clause-complete
returns-in-Ok-Run-clause-complete g c = λ read write.
    run_complete _ (map string_bytes c.args.words.now) c.run_call.result _ _ (rw c.in-Ok-Run.field-0-is at c.in-Ok-Run.ensures.ok) c.code.ensures
    (c.run_call.ensures.complete read write)

pub returns-in-Ok-Race-clause-answers : goal.returns-in-Ok-Race-clause-answers
returns-in-Ok-Race-clause-answers g c =
    race_answers _ (map string_bytes c.args.words.now) c.race_call.result _ _ _ _ (rw c.in-Ok-Race.field-0-is at c.in-Ok-Race.ensures.ok) c.code-in-Ok-Race.ensures
    c.race_call.ensures.answers

pub returns-in-Ok-Race-clause-headline : goal.returns-in-Ok-Race-clause-headline
returns-in-Ok-Race-clause-headline g c =
    race_well _ _ (map string_bytes c.args.words.now) c.race_call.result _ _ _ _ (rw c.in-Ok-Race.field-0-is at c.in-Ok-Race.ensures.ok) c.code-in-Ok-Race.ensures
    c.race_call.ensures.headline c.race_call.ensures.end

pub returns-in-Ok-Race-clause-unfinished : goal.returns-in-Ok-Race-clause-unfinished
returns-in-Ok-Race-clause-unfinished g c =
    race_open _ _ (map string_bytes c.args.words.now) c.race_call.result _ _ _ _ (rw c.in-Ok-Race.field-0-is at c.in-Ok-Race.ensures.ok) c.code-in-Ok-Race.ensures
    c.race_call.ensures.unfinished c.race_call.ensures.open_end

pub returns-in-Ok-Race-clause-usage : goal.returns-in-Ok-Race-clause-usage
returns-in-Ok-Race-clause-usage g c = run_usage c.race_call.result _ _ c.code-in-Ok-Race.ensures c.race_call.ensures.usage

pub returns-in-Ok-Race-clause-early : goal.returns-in-Ok-Race-clause-early
returns-in-Ok-Race-clause-early g c =
    race_early _ _ (map string_bytes c.args.words.now) c.race_call.result _ _ (rw c.in-Ok-Race.field-0-is at c.in-Ok-Race.ensures.ok) c.code-in-Ok-Race.ensures
    c.race_call.ensures.refused c.race_call.ensures.limit

pub returns-in-Ok-Race-clause-complete : goal.returns-in-Ok-Race-clause-complete
returns-in-Ok-Race-clause-complete g c = λ read write.
    race_complete _ (map string_bytes c.args.words.now) c.race_call.result _ _ (rw c.in-Ok-Race.field-0-is at c.in-Ok-Race.ensures.ok) c.code-in-Ok-Race.ensures
    (c.race_call.ensures.complete read write)

pub returns-in-Ok-Gen-clause-answers : goal.returns-in-Ok-Gen-clause-answers
returns-in-Ok-Gen-clause-answers g c =
    made_answers _ (map string_bytes c.args.words.now) c.gen_call.result _ _ _ c.in-Ok-Gen.number c.in-Ok-Gen.size (rw c.in-Ok-Gen.field-0-is at c.in-Ok-Gen.ensures.ok)
    c.code-in-Ok-Gen.ensures c.gen_call.ensures.answers

pub returns-in-Ok-Gen-clause-headline : goal.returns-in-Ok-Gen-clause-headline
returns-in-Ok-Gen-clause-headline g c =
    made_well _ _ (map string_bytes c.args.words.now) c.gen_call.result _ _ _ c.in-Ok-Gen.number c.in-Ok-Gen.size (rw c.in-Ok-Gen.field-0-is at c.in-Ok-Gen.ensures.ok)
    c.code-in-Ok-Gen.ensures c.gen_call.ensures.answers

pub returns-in-Ok-Gen-clause-complete : goal.returns-in-Ok-Gen-clause-complete
returns-in-Ok-Gen-clause-complete g c = λ read write.
    made_complete _ (map string_bytes c.args.words.now) c.gen_call.result _ _ c.in-Ok-Gen.number c.in-Ok-Gen.size (rw c.in-Ok-Gen.field-0-is at c.in-Ok-Gen.ensures.ok)
    c.code-in-Ok-Gen.ensures c.gen_call.ensures.known c.gen_call.ensures.cause write

pub returns-in-Err-NoMemory-clause-answers : goal.returns-in-Err-NoMemory-clause-answers
returns-in-Err-NoMemory-clause-answers g c = refused_answers _ (map string_bytes c.args.words.now) _ _ c.code-in-Err-NoMemory.ensures

pub returns-in-Err-NoMemory-clause-complete : goal.returns-in-Err-NoMemory-clause-complete
returns-in-Err-NoMemory-clause-complete g c = λ read write. refused_complete _ (map string_bytes c.args.words.now) _ c.code-in-Err-NoMemory.ensures

pub returns-in-Err-Usage-clause-answers : goal.returns-in-Err-Usage-clause-answers
returns-in-Err-Usage-clause-answers g c =
    unused_answers _ (map string_bytes c.args.words.now) c.put_usage.result _ _ _ (c.in-Err-Usage.ensures.err c.in-Err-Usage.field-0-is) c.code-in-Err-Usage.ensures
    c.put_usage.ensures.answers

pub returns-in-Err-Usage-clause-complete : goal.returns-in-Err-Usage-clause-complete
returns-in-Err-Usage-clause-complete g c = λ read write.
    unused_complete _ (map string_bytes c.args.words.now) c.put_usage.result _ _ (c.in-Err-Usage.ensures.err c.in-Err-Usage.field-0-is) c.code-in-Err-Usage.ensures
    c.put_usage.ensures.known c.put_usage.ensures.cause write

pub returns-in-Ok-Run-clause-fails : goal.returns-in-Ok-Run-clause-fails
returns-in-Ok-Run-clause-fails g c =
    run_fails _ _ (map string_bytes c.args.words.now) c.run_call.result _ _ (rw c.in-Ok-Run.field-0-is at c.in-Ok-Run.ensures.ok) c.code.ensures c.run_call.ensures.fails

pub returns-in-Ok-Race-clause-fails : goal.returns-in-Ok-Race-clause-fails
returns-in-Ok-Race-clause-fails g c =
    race_fails _ _ (map string_bytes c.args.words.now) c.race_call.result _ _ (rw c.in-Ok-Race.field-0-is at c.in-Ok-Race.ensures.ok) c.code-in-Ok-Race.ensures
    c.race_call.ensures.fails
