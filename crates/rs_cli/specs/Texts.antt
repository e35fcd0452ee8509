-- The texts of `--help` and `--version`, without their last line end.
use Rattle.std.specs.Prelude.{ℕ, List, codes}

unfoldable pub help_text : List ℕ
help_text = codes "rs pipe USER TOKEN SCOPES [QUOTA [BASE SALT SECRET]]\nrs grant SCOPES\nrs revoke TOKEN\nrs connect ROOT TOKEN SCOPES\nrs put PATH TYPE\nrs get PATH\nrs rm PATH\nrs ls FOLDER\nrs status\nrs conflicts\nrs resolve N keep|drop\nrs serve --config FILE [--workers N]\nrs --help\nrs --version"

unfoldable pub version_text : List ℕ
version_text = codes "rs 0.1.0"
