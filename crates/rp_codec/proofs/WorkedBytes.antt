-- The worked bytes, by computation.
use Rattle.std.proofs.Common.{◌≡◌, [], ◌∷◌, ◌++◌, take, drop, Ok, refl}
use Rattle.rp_base.specs.Keys.{key_of, key_number, key_text}
use Rattle.rp_base.specs.ShortTexts.{text_of}
use Rattle.rp_request.specs.declared.Payload.TheVariants as payloads
use Rattle.rp_codec.specs.Reading.{bad, bytes_at, byte_at, byte_parts, byte_in, number_at, text_parts, text_at, plain_at, kind_of, tagged_at, value_at, key_parts, key_at, option_parts, option_at, put_at, request_of, request_at, old_at, reply_of, reply_at, set_at, op_at, ops_at, batch_at, id_at, command_at, tag_at, payload_of, version_of, payload_at, all_in, payload_in}
use Rattle.rp_codec.specs.Spelling.{text_bytes, tagged_bytes, plain_bytes, value_bytes, key_bytes, option_bytes, request_bytes, reply_bytes, op_bytes, batch_bytes, id_bytes, command_bytes, payload_bytes, spelling}
use Rattle.rp_codec.specs.Worked.{put_of_a, put_bytes, text_of_a, text_put_bytes, number_by_2, put_byte}

pub put_spelled : spelling put_of_a ≡ put_bytes
unfolding spelling payload_bytes command_bytes id_bytes request_bytes reply_bytes batch_bytes op_bytes option_bytes value_bytes plain_bytes key_bytes key_text
put_spelled = refl

pub put_read : payload_in put_bytes ≡ Ok put_of_a
unfolding payload_in all_in payload_at version_of tag_at payload_of command_at id_at request_at request_of put_at reply_at reply_of old_at batch_at ops_at op_at set_at option_at option_parts value_at plain_at number_at key_at key_parts byte_in byte_parts byte_at bytes_at key_of key_number
put_read = refl

pub put_cut : payload_in (take 50 put_bytes) ≡ bad 43
unfolding payload_in all_in payload_at version_of tag_at payload_of command_at id_at request_at request_of put_at reply_at reply_of old_at batch_at ops_at op_at set_at option_at option_parts value_at plain_at number_at key_at key_parts byte_in byte_parts byte_at bytes_at key_of key_number
put_cut = refl

pub put_behind : payload_in (put_bytes ++ 0 ∷ []) ≡ bad 51
unfolding payload_in all_in payload_at version_of tag_at payload_of command_at id_at request_at request_of put_at reply_at reply_of old_at batch_at ops_at op_at set_at option_at option_parts value_at plain_at number_at key_at key_parts byte_in byte_parts byte_at bytes_at key_of key_number
put_behind = refl

pub nothing_at_all : payload_in [] ≡ bad 0
unfolding payload_in all_in payload_at byte_in byte_parts byte_at
nothing_at_all = refl

pub nothing_read : payload_in (1 ∷ 0 ∷ []) ≡ Ok payloads.Nothing
unfolding payload_in all_in payload_at version_of tag_at payload_of byte_in byte_parts byte_at
nothing_read = refl

-- ---- version 2

pub text_spelled : spelling text_of_a ≡ text_put_bytes
unfolding spelling payload_bytes command_bytes id_bytes request_bytes reply_bytes batch_bytes op_bytes option_bytes value_bytes tagged_bytes text_bytes key_bytes key_text
text_spelled = refl

pub text_read : payload_in text_put_bytes ≡ Ok text_of_a
unfolding payload_in all_in payload_at version_of tag_at payload_of command_at id_at request_at request_of put_at reply_at reply_of old_at batch_at ops_at op_at set_at option_at option_parts value_at tagged_at kind_of plain_at text_at text_parts number_at key_at key_parts byte_in byte_parts byte_at bytes_at key_of key_number text_of
text_read = refl

pub text_as_version_1 : payload_in (1 ∷ drop 1 text_put_bytes) ≡ bad 38
unfolding payload_in all_in payload_at version_of tag_at payload_of command_at id_at request_at request_of put_at reply_at reply_of old_at batch_at ops_at op_at set_at option_at option_parts value_at tagged_at kind_of plain_at text_at text_parts number_at key_at key_parts byte_in byte_parts byte_at bytes_at key_of key_number text_of
text_as_version_1 = refl

pub number_as_version_2 : payload_in number_by_2 ≡ bad 0
unfolding payload_in all_in payload_at version_of tag_at payload_of command_at id_at request_at request_of put_at reply_at reply_of old_at batch_at ops_at op_at set_at option_at option_parts value_at tagged_at kind_of plain_at text_at text_parts number_at key_at key_parts byte_in byte_parts byte_at bytes_at key_of key_number text_of
number_as_version_2 = refl

pub text_behind : payload_in (text_put_bytes ++ 0 ∷ []) ≡ bad 43
unfolding payload_in all_in payload_at version_of tag_at payload_of command_at id_at request_at request_of put_at reply_at reply_of old_at batch_at ops_at op_at set_at option_at option_parts value_at tagged_at kind_of plain_at text_at text_parts number_at key_at key_parts byte_in byte_parts byte_at bytes_at key_of key_number text_of
text_behind = refl

pub text_with_blank : payload_in (put_byte 31 32 text_put_bytes) ≡ bad 30
unfolding payload_in all_in payload_at version_of tag_at payload_of command_at id_at request_at request_of put_at reply_at reply_of old_at batch_at ops_at op_at set_at option_at option_parts value_at tagged_at kind_of plain_at text_at text_parts number_at key_at key_parts byte_in byte_parts byte_at bytes_at key_of key_number text_of
text_with_blank = refl
