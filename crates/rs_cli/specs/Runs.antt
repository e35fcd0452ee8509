-- What the words of a command line do.
use Rattle.std.specs.Prelude.{◌≡◌, ℕ, ◌⊎◌, List, Some, None, codes}
use Rattle.rs_cache.specs.declared.event.Event.TheVariants as event
use Rattle.rs_cache.specs.Refusals.{remove_refusal, resolve_refusal}
use Rattle.rs_client.specs.Answers.{shown_document, shown_listing, shown_summary, shown_conflicts}
use Rattle.rs_talk.specs.declared.change.Change.TheVariants as change
use Rattle.rs_cli.specs.declared.command.Command.{Command}
use Rattle.rs_cli.specs.declared.command.Command.TheVariants.{Pipe, Grant, Revoke, Connect, Put, Get, Remove, List as ListFolder, Status, Conflicts, Resolve, Help, Version}
use Rattle.rs_cli.specs.declared.command.WordFault.{WordFault}
use Rattle.rs_cli.specs.declared.note.Note.{Note}
use Rattle.rs_cli.specs.declared.note.Note.TheVariants.{NoMemory}
use Rattle.rs_cli.specs.Causes.{note_of_words}
use Rattle.rs_cli.specs.ClientEnds.{ConnectEnds, PutEnds, AddEnds, ShowEnds}
use Rattle.rs_cli.specs.Forms.{wrong_word}
use Rattle.rs_cli.specs.Commands.{AsksFor, setting_in, word_fault}
use Rattle.rs_face.specs.Courses.{IsUntouched}
use Rattle.rs_cli.specs.Outsides.{Outside, IsAsItWas}
use Rattle.rs_cli.specs.Grants.{Prints, line_of, RevokeEnds, GrantEnds}
use Rattle.rs_cli.specs.Pipes.{config_of, PipeEnds}
use Rattle.rs_cli.specs.Texts.{help_text, version_text}

module _ (out : Outside) where
  -- a text is printed, and nothing else is done
  pub record PrintsText (text : List ℕ) (note : Note) : Type 0 where
    pub rows : IsUntouched out.rows
    pub words : IsUntouched out.words
    pub source : IsUntouched out.source
    pub prints : Prints out.sink (line_of text) note

  -- a client's command that reads no source
  abbrev pub ByItself : Type 0 → Type 0
  ByItself done = IsUntouched out.source × IsUntouched out.words × done

  -- what a command does, and how it ends
  abbrev pub Does : Command → Note → Type 0
  Does (Pipe serving) note =
      PipeEnds (config_of serving.user.now (setting_in serving)) serving.token serving.scopes serving.quota out.rows out.source out.sink out.wants out.words note
  Does (Grant scopes) note = IsUntouched out.source × GrantEnds scopes out.rows out.words out.sink note
  Does (Revoke token) note = IsUntouched out.source × IsUntouched out.words × RevokeEnds token out.rows out.sink note
  Does (Connect root token scopes) note = ByItself (ConnectEnds root token scopes out.rows out.sink note)
  Does (Put document kind) note = IsUntouched out.words × PutEnds document.path kind out.rows out.source out.sink note
  Does (Get document) note = ByItself (ShowEnds (shown_document document.path) out.rows out.sink note)
  Does (Remove document) note = ByItself
      (AddEnds (λ s. remove_refusal s document.path) (event.Edit document.path change.Remove) (codes "removed") out.rows out.sink note)
  Does (ListFolder folder) note = ByItself (ShowEnds (shown_listing folder.path) out.rows out.sink note)
  Does Status note = ByItself (ShowEnds shown_summary out.rows out.sink note)
  Does Conflicts note = ByItself (ShowEnds shown_conflicts out.rows out.sink note)
  Does (Resolve n how) note = ByItself
      (AddEnds (λ s. resolve_refusal s n how) (event.Resolved n how) (codes "resolved") out.rows out.sink note)
  Does Help note = PrintsText help_text note
  Does Version note = PrintsText version_text note

  -- the words ask for a command, and it was done
  pub record DoesCommand (words : List (List ℕ)) (note : Note) : Type 0 where
    pub command : Command
    pub right : wrong_word words ≡ None
    pub asked : AsksFor command words
    pub done : Does command note

  -- the words are in no form, and the note says why: by the index of the first wrong word, or that this is an `https` address
  pub record IsWrong (words : List (List ℕ)) (note : Note) : Type 0 where
    pub fault : WordFault
    pub wrong : word_fault words ≡ Some fault
    pub said : note ≡ note_of_words fault

  -- the words were done; or they are wrong, or memory ran out over them, and nothing was done
  abbrev pub Runs : List (List ℕ) → Note → Type 0
  Runs words note = DoesCommand words note ⊎ ((IsWrong words note ⊎ (note ≡ NoMemory)) × IsAsItWas out)
