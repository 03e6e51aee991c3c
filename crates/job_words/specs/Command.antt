-- The command line: one level of subcommands, with the words that each has to have behind it.
use Rattle.std.specs.Prelude.{true, List, [], ◌∷◌, codes, Some}
use Rattle.clap.specs.Words.{App, Rule, Text, new_app, new_rule, with_rule, with_subcommand}
use Rattle.clap.specs.declared.builder.ArgAction.TheVariants.{Set}

-- a word that has to stand there
abbrev pub needed : Text → Rule
needed id = record (new_rule id) { required = true; action = Some Set }

abbrev pub with_needed : App → List Text → App
with_needed app [] = app
with_needed app (id ∷ ids) = with_needed (with_rule app (needed id)) ids

abbrev pub without_help : App → App
without_help app = record app { top = record app.top { disable_help_flag = true } }

-- a subcommand of these words
abbrev pub leaf : Text → List Text → App
leaf name ids = with_needed (without_help (new_app name)) ids

-- the first word is no program's name, there is no help and no version, and a subcommand has to be given
abbrev pub bare : App
bare = let app : App = new_app (codes "dex") in
    record app { top = record app.top { no_binary_name = true; disable_help_flag = true; disable_help_subcommand = true; disable_version_flag = true; subcommand_required = true } }

abbrev pub plus : App → Text → List Text → App
plus app name ids = with_subcommand app (leaf name ids).top

abbrev pub dex : App
dex = plus (plus (plus (plus (plus (plus (plus bare
    (codes "format") (codes "role" ∷ codes "own" ∷ codes "peer" ∷ codes "journal" ∷ []))
    (codes "check") (codes "kind" ∷ []))
    (codes "show") (codes "journal" ∷ []))
    (codes "handheld") (codes "journal" ∷ codes "port" ∷ []))
    (codes "receiver") (codes "journal" ∷ codes "port" ∷ []))
    (codes "replay") [])
    (codes "load") (codes "count" ∷ [])
