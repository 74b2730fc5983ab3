-- The script of a number: a cluster of five nodes, a tenth of the messages lost, commands of sixteen
-- clients with splits and moving leases between them (this project).
use Rattle.std.specs.Prelude.{ℕ, suc, zero, ◌+◌, ◌%◌, ◌==◌, nat_lt, if◌then◌else◌, List, [], ◌∷◌, ◌++◌, length, slice_index, slice_set, codes}
use Rattle.std.specs.Fmt.{decimal}
use Rattle.rp_gen.specs.Draws.{draws_of, picked}
use Rattle.rp_gen.specs.Words.{newline, key_word, settle_line, send_words, split_lines, transfer_lines, keyed_words, move_words}
use Rattle.rp_gen.specs.Ranges.{first_key, left_of, range_of, split_is_due, transfer_is_due}
use Rattle.rp_gen.specs.declared.drafts.Draft.{Draft}

-- the head of the script; node 1 holds the first range
abbrev pub begun : ℕ → Draft
begun number = record {
  text = codes "cluster 5" ++ newline ++ codes "loss 10 " ++ decimal number ++ newline;
  draws = draws_of number;
  holders = 1 ∷ [];
}

-- more text at the end
abbrev pub written : List ℕ → Draft → Draft
written more d = record d { text = d.text ++ more }

-- the split that makes the next range, which the left one's holder then holds
abbrev pub with_split : Draft → Draft
with_split d =
    let right = length d.holders in
    let holder = slice_index d.holders (left_of right) in
    record d {
      text = d.text ++ split_lines holder (left_of right) (first_key right);
      holders = d.holders ++ holder ∷ [];
    }

abbrev pub with_split_due : (size before : ℕ) → Draft → Draft
with_split_due size before d =
    if split_is_due size before (length d.holders) then with_split d else d

-- the lease of a range that is drawn goes to a node that is drawn
abbrev pub with_transfer : Draft → Draft
with_transfer d =
    let range = picked (length d.holders) d.draws in
    let to = picked 5 range.1 in
    record d {
      text = d.text ++ transfer_lines (slice_index d.holders range.0) range.0 (1 + to.0);
      draws = to.1;
      holders = slice_set d.holders range.0 (1 + to.0);
    }

abbrev pub with_transfer_due : (size before : ℕ) → Draft → Draft
with_transfer_due size before d =
    if transfer_is_due size before then with_transfer d else d

-- a request on a key with a number below n, to which one is added or not
abbrev pub with_keyed : (verb : List ℕ) (key : ℕ) (between : List ℕ) (least n : ℕ) → Draft → Draft
with_keyed verb key between least n d =
    let drawn = picked n d.draws in
    record d {
      text = d.text ++ keyed_words verb key between (least + drawn.0);
      draws = drawn.1;
    }

-- an amount below ten moves to another key
abbrev pub with_move : (from to : ℕ) → Draft → Draft
with_move from to d =
    let drawn = picked 10 d.draws in
    record d { text = d.text ++ move_words from to drawn.0; draws = drawn.1 }

-- the request of a kind that is drawn below ten: half of them add 1 to 100, a fifth put and a tenth
-- put where there is no value, each below 1000, a tenth delete, and a tenth move to the first key
-- of the range
unfoldable pub with_request : (kind key first : ℕ) → Draft → Draft
with_request kind key first d =
    if nat_lt kind 5 then with_keyed (codes "add ") key (codes " ") 1 100 d
    else (if nat_lt kind 7 then with_keyed (codes "put ") key (codes " ") 0 1000 d
    else (if kind == 7 then with_keyed (codes "cput ") key (codes " none ") 0 1000 d
    else (if kind == 8 then written (codes "del " ++ key_word key) d
    else with_move key first d)))

-- a command: its key is drawn, then the kind of its request; it goes to the key's range, at its
-- holder, from the clients 1 to 16 in turn
abbrev pub with_command : (before : ℕ) → Draft → Draft
with_command before d =
    let key = picked 1000 d.draws in
    let kind = picked 10 key.1 in
    let range = range_of (length d.holders) key.0 in
    let sent = record d {
      text = d.text ++ send_words (slice_index d.holders range) range (1 + before % 16);
      draws = kind.1;
    } in
    written newline (with_request kind.0 key.0 (first_key range) sent)

-- four rounds behind each sixteenth command
abbrev pub with_rounds : (before : ℕ) → Draft → Draft
with_rounds before d = if (before + 1) % 16 == 0 then written (settle_line 4) d else d

-- the next command with what comes before and behind it, where so many commands are written
abbrev pub with_next : (size before : ℕ) → Draft → Draft
with_next size before d =
    with_rounds before (with_command before (with_transfer_due size before (with_split_due size before d)))

-- the first n commands
unfoldable pub with_commands : (size n : ℕ) → Draft → Draft
with_commands size zero d = d
with_commands size (suc n) d = with_next size n (with_commands size n d)

-- the whole script: so many commands, and at last rounds enough to end
abbrev pub script_of : (number size : ℕ) → List ℕ
script_of number size =
    (with_commands size size (begun number)).text ++ settle_line 100 ++ codes "end" ++ newline
