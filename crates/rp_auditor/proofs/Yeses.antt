-- A verdict is yes exactly where all of its checks hold.
use Rattle.std.proofs.Common.{◌≡◌, ℕ, Bool, true, false, List, [], ◌∷◌, ◌++◌, Option, refl, ap, ◌∙◌}
use Rattle.std.specs.Prelude.{◌↔◌}
use Rattle.rp_report.specs.declared.views.ReplicaView.{ReplicaView}
use Rattle.rp_report.specs.declared.views.ReplicaView.TheVariants.{Live, Removed, Absent}
use Rattle.rp_request.specs.Items.{State}
use Rattle.rp_request.specs.declared.items.Place.{Place}
use Rattle.rp_request.specs.declared.items.Record.{Record}
use Rattle.rp_request.specs.declared.items.Record.TheVariants.{Took, Passed}
use Rattle.rp_reread.specs.declared.reports.Entry.{Entry}
use Rattle.rp_reread.specs.declared.reports.RangeRead.{RangeRead}
use Rattle.rp_reread.specs.declared.reports.Report.{Report}
use Rattle.rp_auditor.specs.Audits.{◌before◌, checked, judged_item, judged_record, judged_entries, judged_replica, judged_replicas, judged_range, judged_ranges, judged}
use Rattle.rp_auditor.specs.Holding.{ItemHolds, RecordHolds, EntriesHold, ReplicaHolds, ReplicasHold, RangeHolds, RangesHold, AllHold}
use Rattle.rp_auditor.specs.Playing.{after_record}
use Rattle.rp_auditor.specs.Seen.{Seen, named_by, named_in}
use Rattle.rp_auditor.specs.Starts.{start_of}
use Rattle.rp_auditor.specs.declared.verdicts.Check.{Check}
use Rattle.rp_auditor.specs.declared.verdicts.Verdict.{Verdict}
use Rattle.rp_auditor.specs.declared.verdicts.Verdict.TheVariants.{Yes, No}

-- two verdicts one after the other
both : (v w : Verdict) → (v before w) ≡ Yes → (v ≡ Yes) × (w ≡ Yes)
both Yes w h = (refl, h)
both (No range index check) w h = cc

joined : (v w : Verdict) → v ≡ Yes → w ≡ Yes → (v before w) ≡ Yes
joined v w one other = ap (λ x. x before w) one ∙ other

-- a check
held : (range index : ℕ) (check : Check) (b : Bool) → checked range index check b ≡ Yes → b ≡ true
held range index check true h = refl
held range index check false h = cc

holds : (range index : ℕ) (check : Check) (b : Bool) → b ≡ true → checked range index check b ≡ Yes
holds range index check b h = rw h refl

item_held : (range index : ℕ) (seen : Seen) (s : Option State) (item : Place) → judged_item range index seen s item ≡ Yes → ItemHolds seen s item
item_held range index seen s item h =
    let (a, rest) = both _ _ h in
    let (b, more) = both _ _ rest in
    let (d, e) = both _ _ more in
    record { once = held _ _ _ _ a; lease = held _ _ _ _ b; bounds = held _ _ _ _ d; reply = held _ _ _ _ e }

item_holds : (range index : ℕ) (seen : Seen) (s : Option State) (item : Place) → ItemHolds seen s item → judged_item range index seen s item ≡ Yes
item_holds range index seen s item h =
    joined _ _ (holds range index _ _ h.once) (joined _ _ (holds range index _ _ h.lease)
    (joined _ _ (holds range index _ _ h.bounds) (holds range index _ _ h.reply)))

record_held : (range index : ℕ) (seen : Seen) (s : Option State) (kept : Record) → judged_record range index seen s kept ≡ Yes → RecordHolds seen s kept
record_held range index seen s (Took item) h = item_held range index seen s item h
record_held range index seen s (Passed why) h = tt

record_holds : (range index : ℕ) (seen : Seen) (s : Option State) (kept : Record) → RecordHolds seen s kept → judged_record range index seen s kept ≡ Yes
record_holds range index seen s (Took item) h = item_holds range index seen s item h
record_holds range index seen s (Passed why) h = refl

entries_held : (range : ℕ) (seen : Seen) (s : Option State) (es : List Entry) → judged_entries range seen s es ≡ Yes → EntriesHold seen s es
entries_held range seen s [] h = tt
entries_held range seen s (e ∷ es) h =
    let (one, rest) = both _ _ h in
    (record_held range e.index seen s e.kept one, entries_held range (seen ++ named_by e.kept) (after_record s e.kept) es rest)

entries_hold : (range : ℕ) (seen : Seen) (s : Option State) (es : List Entry) → EntriesHold seen s es → judged_entries range seen s es ≡ Yes
entries_hold range seen s [] h = refl
entries_hold range seen s (e ∷ es) (one, rest) =
    joined _ _ (record_holds range e.index seen s e.kept one) (entries_hold range (seen ++ named_by e.kept) (after_record s e.kept) es rest)

replica_held : (range : ℕ) (start : Option State) (es : List Entry) (r : ReplicaView) → judged_replica range start es r ≡ Yes → ReplicaHolds start es r
replica_held range start es (Live term applied lai rows) h = held _ _ _ _ h
replica_held range start es (Removed applied) h = tt
replica_held range start es Absent h = tt

replica_holds : (range : ℕ) (start : Option State) (es : List Entry) (r : ReplicaView) → ReplicaHolds start es r → judged_replica range start es r ≡ Yes
replica_holds range start es (Live term applied lai rows) h = holds range applied _ _ h
replica_holds range start es (Removed applied) h = refl
replica_holds range start es Absent h = refl

replicas_held : (range : ℕ) (start : Option State) (es : List Entry) (rs : List ReplicaView) → judged_replicas range start es rs ≡ Yes → ReplicasHold start es rs
replicas_held range start es [] h = tt
replicas_held range start es (r ∷ rs) h =
    let (one, rest) = both _ _ h in
    (replica_held range start es r one, replicas_held range start es rs rest)

replicas_hold : (range : ℕ) (start : Option State) (es : List Entry) (rs : List ReplicaView) → ReplicasHold start es rs → judged_replicas range start es rs ≡ Yes
replicas_hold range start es [] h = refl
replicas_hold range start es (r ∷ rs) (one, rest) = joined _ _ (replica_holds range start es r one) (replicas_hold range start es rs rest)

range_held : (seen : Seen) (start : Option State) (x : RangeRead) → judged_range seen start x ≡ Yes → RangeHolds seen start x
range_held seen start x h =
    let (a, rest) = both _ _ h in
    let (b, more) = both _ _ rest in
    let (d, others) = both _ _ more in
    let (e, last) = both _ _ others in
    record {
      starts = held _ _ _ _ a;
      indexed = held _ _ _ _ b;
      entries = entries_held x.id seen start x.entries d;
      left = held _ _ _ _ e;
      replicas = replicas_held x.id start x.entries x.replicas last;
    }

range_holds : (seen : Seen) (start : Option State) (x : RangeRead) → RangeHolds seen start x → judged_range seen start x ≡ Yes
range_holds seen start x h =
    joined _ _ (holds x.id 0 _ _ h.starts) (joined _ _ (holds x.id 0 _ _ h.indexed)
    (joined _ _ (entries_hold x.id seen start x.entries h.entries) (joined _ _ (holds x.id 0 _ _ h.left)
    (replicas_hold x.id start x.entries x.replicas h.replicas))))

ranges_held : (all : List RangeRead) (seen : Seen) (xs : List RangeRead) → judged_ranges all seen xs ≡ Yes → RangesHold all seen xs
ranges_held all seen [] h = tt
ranges_held all seen (x ∷ xs) h =
    let (one, rest) = both _ _ h in
    (range_held seen (start_of all x.id) x one, ranges_held all (seen ++ named_in x.entries) xs rest)

ranges_hold : (all : List RangeRead) (seen : Seen) (xs : List RangeRead) → RangesHold all seen xs → judged_ranges all seen xs ≡ Yes
ranges_hold all seen [] h = refl
ranges_hold all seen (x ∷ xs) (one, rest) =
    joined _ _ (range_holds seen (start_of all x.id) x one) (ranges_hold all (seen ++ named_in x.entries) xs rest)

all_held : (r : Report) → judged r ≡ Yes → AllHold r
all_held r h =
    let (a, rest) = both _ _ h in
    let (b, e) = both _ _ rest in
    record { zero = held _ _ _ _ a; ranges = ranges_held r.ranges [] r.ranges b; honest = held _ _ _ _ e }

all_hold : (r : Report) → AllHold r → judged r ≡ Yes
all_hold r h = joined _ _ (holds 0 0 _ _ h.zero) (joined _ _ (ranges_hold r.ranges [] r.ranges h.ranges) (holds 0 0 _ _ h.honest))

pub yes_where_all_hold : (r : Report) → (judged r ≡ Yes) ↔ AllHold r
yes_where_all_hold r = (all_held r, all_hold r)
