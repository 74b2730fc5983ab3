-- What was admitted has the widths of a request: its keys are keys.
use Rattle.std.proofs.Common.{◌≡◌, ℕ, Option, Some, List, length, sym, ap, subst, ◌∙◌}
use Rattle.std.specs.Prelude.{slice_get}
use Rattle.rp_base.specs.declared.ids.CmdId.{CmdId}
use Rattle.rp_base.specs.declared.items.Item.{Item}
use Rattle.rp_raftstep.specs.declared.messages.Message.{Message}
use Rattle.rp_request.specs.Applied.{AppliedState}
use Rattle.rp_request.specs.Fits.{FitsRequest}
use Rattle.rp_request.specs.declared.requests.Request.{Request}
use Rattle.rp_events.specs.declared.answers.EventAnswer.TheVariants as answers
use Rattle.rp_events.specs.declared.journals.JournalEntry.{JournalEntry}
use Rattle.rp_events.specs.declared.journals.PastEvent.TheVariants as past
use Rattle.rp_events.specs.declared.node_events.Event.{Event}
use Rattle.rp_events.specs.declared.node_events.Event.TheVariants as events
use Rattle.rp_events.specs.Nodes.{parcel_of}
use Rattle.rp_events.specs.NodeEvents.{step}
use Rattle.rp_events.specs.Worlds as worlds
use Rattle.rp_events.specs.Worlds.{World, Happening, delivery, sent_by, event_of, taken_in}
use Rattle.rp_events.specs.Lawful.{HasWidths, IsReached}
use Rattle.rp_events.specs.Lists.{IsAdmitted}
use Rattle.rp_journals.specs.Growth.{Grows}
use Rattle.rp_journals.specs.Entries.{WasWritten}
use Rattle.rp_journals.proofs.Lists.{get_begins}
use Rattle.rp_journals.proofs.Reading.{mapped_some}
use Rattle.rp_journals.proofs.Writing.{written}
use Rattle.rp_journals.proofs.Admitting.{Granted, grants, asked_here}

some_is : {A : Type 0} (a b : A) → ◌≡◌ {A = Option A} (Some a) (Some b) → a ≡ b
some_is a b e = cc

-- an admission that happens has the widths of its request
widths_come : (w : World) (what : Happening) (range : ℕ) (id : CmdId) (request : Request) → HasWidths what → event_of w what ≡ Some (events.Admit range id request) → FitsRequest request
widths_come w (worlds.Admit r i q) range id request h e = subst FitsRequest (request_is e) h.1 where
  request_is : ◌≡◌ {A = Option (Event AppliedState)} (Some (events.Admit r i q)) (Some (events.Admit range id request)) → q ≡ request
  request_is f = cc
widths_come w (worlds.Ask r) range id request h e = absurd cc
widths_come w (worlds.Transfer r to) range id request h e = absurd cc
widths_come w (worlds.Collect r taken) range id request h e = absurd cc
widths_come w (worlds.Flush r) range id request h e = absurd cc
widths_come w worlds.Tick range id request h e = absurd cc
widths_come w (worlds.Deliver from number) range id request h e =
    let x = mapped_some (delivery from number) (parcel_of (sent_by w from) number) (events.Admit range id request) e in
    absurd (apart x.0.range x.0.message x.2)
  where
    apart : (r : ℕ) (m : Message AppliedState) → events.Deliver from r number m ≡ events.Admit range id request → ⊥
    apart r m f = cc
widths_come w (worlds.Apply r) range id request h e = absurd cc
widths_come w (worlds.Cut r) range id request h e = absurd cc
widths_come w (worlds.Remove r) range id request h e = absurd cc
widths_come w (worlds.Peek r key) range id request h e = absurd cc
widths_come w worlds.Restart range id request h e = absurd cc
widths_come w worlds.Round range id request h e = absurd cc

pub fits_admitted : (nodes : ℕ) (w : World) → IsReached nodes w → (id : CmdId) (node place range : ℕ) (request : Request) → IsAdmitted w id node place range request → FitsRequest request
fits_admitted nodes w reached id node place range request is = by_event (grants k.n taken k.event range id is.at (sym (ap (λ (z : JournalEntry). z.event) k.entry)) (sym (ap (λ (z : JournalEntry). z.answer) k.entry))) where
  e : JournalEntry
  e = record { event = past.Admit range id is.at; answer = answers.Admitted }

  k : WasWritten nodes w node place e
  k = written nodes w reached node place e (record { n = is.n; has = is.has; here = is.here })

  taken : List Item
  taken = taken_in k.what

  by_event : Granted k.n k.event range id is.at → FitsRequest request
  by_event g = subst FitsRequest same (widths_come k.before k.what range id g.request k.lawful.widths (k.came ∙ ap Some g.is)) where
    here : slice_get (step k.n k.event taken).node.requests is.at ≡ Some g.request
    here = ap (slice_get (step k.n k.event taken).node.requests) g.place
        ∙ subst (λ ev. slice_get (step k.n ev taken).node.requests (length k.n.requests) ≡ Some g.request) (sym g.is) (asked_here k.n range id g.request taken)

    now : Grows (step k.n k.event taken).node is.n
    now = k.grown is.n is.has

    same : g.request ≡ request
    same = some_is g.request request (sym (get_begins (step k.n k.event taken).node.requests is.n.requests now.requests is.at g.request here) ∙ is.asked)
