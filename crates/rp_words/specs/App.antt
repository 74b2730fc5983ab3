-- The command line as clap's command.
use Rattle.std.specs.Prelude.{true, List, [], ◌∷◌, Some, codes}
use Rattle.clap.specs.Walk.{Rule, Text}
use Rattle.clap.specs.Simple.{App, Shape, new_app, new_rule, new_shape, with_rule, with_subcommand}

-- an option of a long name, with a value
abbrev pub option_rule : Text → Rule
option_rule name = record (new_rule name) { long = Some name }

-- a word that has to stand there
abbrev pub word_rule : Text → Rule
word_rule name = record (new_rule name) { required = true }

abbrev pub run_app : App
run_app = with_rule (new_app (codes "run")) (option_rule (codes "form"))

abbrev pub race_app : App
race_app =
    with_rule (with_rule (with_rule (with_rule (with_rule (new_app (codes "race"))
    (option_rule (codes "workers"))) (option_rule (codes "loss"))) (option_rule (codes "salt")))
    (option_rule (codes "quota"))) (option_rule (codes "form"))

abbrev pub gen_app : App
gen_app = with_rule (with_rule (new_app (codes "gen")) (word_rule (codes "number"))) (word_rule (codes "size"))

-- the program: one of three commands, with no help and no further word of its own
abbrev pub top_app : App
top_app = record (new_app (codes "rp")) {
  top = record (new_shape (codes "rp")) {
    no_binary_name = true;
    disable_help_flag = true;
    disable_help_subcommand = true;
    subcommand_required = true;
  };
}

abbrev pub rp_app : App
rp_app = with_subcommand (with_subcommand (with_subcommand top_app run_app.top) race_app.top) gen_app.top
