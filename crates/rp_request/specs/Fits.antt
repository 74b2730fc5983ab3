-- What payloads hold: numbers of their widths, keys, nodes 1 to 5, ranges 0 to 7, at most 16 writes.
use Rattle.std.specs.Prelude.{ℕ, ◌^◌, ◌<◌, ◌≤◌, List, length, slice_index, Option, None, Some}
use Rattle.std.specs.List.{AllByRecursion}
use Rattle.rp_base.specs.Keys.{IsKey}
use Rattle.rp_base.specs.Values.{IsValue}
use Rattle.rp_base.specs.declared.CmdId.{CmdId}
use Rattle.rp_base.specs.declared.KeySpan.{KeySpan}
use Rattle.rp_base.specs.declared.LeaseAsk.{LeaseAsk}
use Rattle.rp_base.specs.declared.values.Value.{Value}
use Rattle.rp_request.specs.declared.commands.Command.{Command}
use Rattle.rp_request.specs.declared.commands.Op.{Op}
use Rattle.rp_request.specs.declared.commands.Op.TheVariants as ops
use Rattle.rp_request.specs.declared.commands.Payload.{Payload}
use Rattle.rp_request.specs.declared.commands.Payload.TheVariants as payloads
use Rattle.rp_request.specs.declared.outcomes.Reply.{Reply}
use Rattle.rp_request.specs.declared.outcomes.Reply.TheVariants as replies
use Rattle.rp_request.specs.declared.requests.Request.{Request}
use Rattle.rp_request.specs.declared.requests.Request.TheVariants as requests

-- each is a byte
abbrev pub AreBytes : List ℕ → Type 0
AreBytes bytes = (i : ℕ) → slice_index bytes i < 256

-- a value or none
abbrev pub FitsOption : Option Value → Type 0
FitsOption None = Unit {0}
FitsOption (Some v) = IsValue v

-- the end of a span
abbrev pub FitsEnd : Option ℕ → Type 0
FitsEnd None = Unit {0}
FitsEnd (Some k) = IsKey k

abbrev pub FitsSpan : KeySpan → Type 0
FitsSpan s = IsKey s.start × FitsEnd s.end

abbrev pub FitsRequest : Request → Type 0
FitsRequest (requests.Put k v) = IsKey k × IsValue v
FitsRequest (requests.Add k n) = IsKey k × (n < 2 ^ 64)
FitsRequest (requests.CPut k o v) = IsKey k × FitsOption o × IsValue v
FitsRequest (requests.Del k) = IsKey k
FitsRequest (requests.Wipe s) = FitsSpan s
FitsRequest (requests.Move k l n) = IsKey k × IsKey l × (n < 2 ^ 64)
FitsRequest (requests.Split k) = IsKey k

abbrev pub FitsReply : Reply → Type 0
FitsReply (replies.Old o) = FitsOption o
FitsReply (replies.Now n) = n < 2 ^ 64
FitsReply replies.Set = Unit {0}
FitsReply (replies.Count n) = n < 2 ^ 64
FitsReply (replies.Range r) = r ≤ 7

abbrev pub FitsOp : Op → Type 0
FitsOp (ops.Set k v) = IsKey k × IsValue v
FitsOp (ops.Remove k) = IsKey k

abbrev pub FitsBatch : List Op → Type 0
FitsBatch writes = (length writes ≤ 16) × AllByRecursion FitsOp writes

abbrev pub FitsId : CmdId → Type 0
FitsId i = (i.client < 2 ^ 16) × (i.seq < 2 ^ 32) × (i.attempt < 2 ^ 16)

pub record FitsCommand (c : Command) : Type 0 where
  pub id : FitsId c.id
  pub seq : c.seq < 2 ^ 64
  pub max : c.max < 2 ^ 64
  pub request : FitsRequest c.request
  pub reply : FitsReply c.reply
  pub batch : FitsBatch c.batch

pub record FitsAsk (a : LeaseAsk) : Type 0 where
  pub from_one : 1 ≤ a.holder
  pub to_five : a.holder ≤ 5
  pub prev : a.prev < 2 ^ 64
  pub expires : a.expires < 2 ^ 64

abbrev pub FitsPayload : Payload → Type 0
FitsPayload payloads.Nothing = Unit {0}
FitsPayload (payloads.Write c) = FitsCommand c
FitsPayload (payloads.Lease a) = FitsAsk a
