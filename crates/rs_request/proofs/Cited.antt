-- What crates above cite: texts of the grammar, by the tests that compute.
pub use Rattle.rs_request.proofs.TextLemmas.{AllPass-from_test, test_from_AllPass, IsToken-from_test, IsField-from_tests, tests_from_IsField}
-- What `rs_reply` cites besides: the lines of a head, their ends, and the line ends before it; fields as they are written and read.
pub use Rattle.rs_request.proofs.TextLemmas.{lacks, lacks_by, lacks_append, line_piece, line_alone, section_found, section_room}
pub use Rattle.rs_request.proofs.RequestLemmas.{no_blank, version_lacks, past_breaks_le}
pub use Rattle.rs_request.proofs.LinesLemmas.{empty_line_is_found, first_line_is_first, window_more}
pub use Rattle.rs_request.proofs.EndLemmas.{line_ends, section_ends}
pub use Rattle.rs_request.proofs.RestLemmas.{line_of_window, end_of_window}
pub use Rattle.rs_request.proofs.TakenLemmas.{broken}
pub use Rattle.rs_request.proofs.HeadLemmas.{pair_fields_of, past_breaks_twice}
pub use Rattle.rs_request.proofs.WrittenLemmas.{fields_text_is, fields_back}
