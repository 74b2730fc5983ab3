-- Whether a text is held: a payload that holds one is spelled by version 2.
use Rattle.std.specs.Prelude.{Bool, false, ◌||◌, Some}
use Rattle.std.specs.List.{list_any}
use Rattle.rp_base.specs.Values.{is_text}
use Rattle.rp_request.specs.declared.commands.Command.{Command}
use Rattle.rp_request.specs.declared.commands.Op.{Op}
use Rattle.rp_request.specs.declared.commands.Op.TheVariants as ops
use Rattle.rp_request.specs.declared.commands.Payload.{Payload}
use Rattle.rp_request.specs.declared.commands.Payload.TheVariants as payloads
use Rattle.rp_request.specs.declared.outcomes.Reply.{Reply}
use Rattle.rp_request.specs.declared.outcomes.Reply.TheVariants as replies
use Rattle.rp_request.specs.declared.requests.Request.{Request}
use Rattle.rp_request.specs.declared.requests.Request.TheVariants as requests

-- the request puts a text, or expects one
abbrev pub request_has_text : Request → Bool
request_has_text (requests.Put k v) = is_text (Some v)
request_has_text (requests.Add k n) = false
request_has_text (requests.CPut k o v) = is_text o || is_text (Some v)
request_has_text (requests.Del k) = false
request_has_text (requests.Wipe s) = false
request_has_text (requests.Move k l n) = false
request_has_text (requests.Split k) = false

-- the reply gives a text
abbrev pub reply_has_text : Reply → Bool
reply_has_text (replies.Old o) = is_text o
reply_has_text (replies.Now n) = false
reply_has_text replies.Set = false
reply_has_text (replies.Count n) = false
reply_has_text (replies.Range r) = false

-- the write sets a text
abbrev pub op_has_text : Op → Bool
op_has_text (ops.Set k v) = is_text (Some v)
op_has_text (ops.Remove k) = false

-- the command's request, reply or batch holds a text
abbrev pub command_has_text : Command → Bool
command_has_text c = request_has_text c.request || (reply_has_text c.reply || list_any op_has_text c.batch)

-- the payload is such a command
abbrev pub payload_has_text : Payload → Bool
payload_has_text payloads.Nothing = false
payload_has_text (payloads.Write c) = command_has_text c
payload_has_text (payloads.Lease a) = false
