-- What crates above cite: the head of a reply, line by line.
pub use Rattle.rs_reply.proofs.StatusLemmas.{status_line_append, reply_head_lines}
