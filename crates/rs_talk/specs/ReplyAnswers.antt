-- The answer that a user's history gives to an ask, as a client reads it (RFC 9110, section 15).
use Rattle.std.specs.Prelude.{ℕ, Bool, true, false, is_some, decimal, if◌then◌else◌}
use Rattle.rs_rules.specs.declared.reply.Reply.{Reply}
use Rattle.rs_rules.specs.declared.reply.Reply.TheVariants as replies
use Rattle.rs_talk.specs.declared.answer.Answer.{Answer}
use Rattle.rs_talk.specs.declared.answer.Answer.TheVariants as answers
use Rattle.rs_talk.specs.declared.ask.Ask.{Ask}
use Rattle.rs_talk.specs.declared.ask.Ask.TheVariants.{Folder, Document, Put, Remove}

-- the status of a reply; the last four are no replies to a request on a document or a folder
abbrev pub status_replied : Reply → ℕ
status_replied (replies.Found version kind body) = 200
status_replied (replies.Folder version items) = 200
status_replied (replies.Stored version created) = if created then 201 else 200
status_replied (replies.Removed version) = 200
status_replied (replies.Same version) = 304
status_replied replies.NoToken = 401
status_replied replies.BadToken = 401
status_replied replies.Forbidden = 403
status_replied replies.FolderWrite = 400
status_replied (replies.Clash path) = 409
status_replied replies.Absent = 404
status_replied replies.Unmet = 412
status_replied replies.RecordsFull = 507
status_replied (replies.OverQuota live) = 507
status_replied (replies.FolderFull path) = 507
status_replied replies.StoreFailed = 500
status_replied replies.Granted = 500
status_replied replies.TokenTaken = 500
status_replied replies.Revoked = 500
status_replied replies.NotGranted = 500

-- the answer that a reply is to one who asked for a folder
abbrev pub folder_answer : Reply → Answer
folder_answer (replies.Folder version items) = answers.Listing (decimal version) items
folder_answer (replies.Same version) = answers.Same
folder_answer replies.Absent = answers.Absent
folder_answer reply = answers.Status (status_replied reply)

-- for a document
abbrev pub document_answer : Reply → Answer
document_answer (replies.Found version kind body) = answers.Document (record { tag = decimal version; kind = kind; body = body })
document_answer (replies.Same version) = answers.Same
document_answer replies.Absent = answers.Absent
document_answer reply = answers.Status (status_replied reply)

-- who wrote a document
abbrev pub put_answer : Reply → Answer
put_answer (replies.Stored version created) = answers.Stored (decimal version) created
put_answer replies.Unmet = answers.Unmet
put_answer reply = answers.Status (status_replied reply)

-- who removed one
abbrev pub remove_answer : Reply → Answer
remove_answer (replies.Removed version) = answers.Removed
remove_answer replies.Absent = answers.Absent
remove_answer replies.Unmet = answers.Unmet
remove_answer reply = answers.Status (status_replied reply)

-- the answer that a reply is to the ask
abbrev pub answer_given : Ask → Reply → Answer
answer_given (Folder path known) reply = folder_answer reply
answer_given (Document path known) reply = document_answer reply
answer_given (Put path base kind body) reply = put_answer reply
answer_given (Remove path base) reply = remove_answer reply

-- ---- which replies come

-- a reply that one who asked for a folder may get; that nothing has changed only where a version was known
abbrev pub may_show_folder : Bool → Reply → Bool
may_show_folder known (replies.Found version kind body) = false
may_show_folder known (replies.Stored version created) = false
may_show_folder known (replies.Removed version) = false
may_show_folder known (replies.Same version) = known
may_show_folder known reply = true

abbrev pub may_show_document : Bool → Reply → Bool
may_show_document known (replies.Folder version items) = false
may_show_document known (replies.Stored version created) = false
may_show_document known (replies.Removed version) = false
may_show_document known (replies.Same version) = known
may_show_document known reply = true

abbrev pub may_store : Reply → Bool
may_store (replies.Found version kind body) = false
may_store (replies.Folder version items) = false
may_store (replies.Removed version) = false
may_store (replies.Same version) = false
may_store reply = true

abbrev pub may_remove : Reply → Bool
may_remove (replies.Found version kind body) = false
may_remove (replies.Folder version items) = false
may_remove (replies.Stored version created) = false
may_remove (replies.Same version) = false
may_remove reply = true

-- the reply may come to the ask
abbrev pub may_answer : Ask → Reply → Bool
may_answer (Folder path known) reply = may_show_folder (is_some known) reply
may_answer (Document path known) reply = may_show_document (is_some known) reply
may_answer (Put path base kind body) reply = may_store reply
may_answer (Remove path base) reply = may_remove reply
