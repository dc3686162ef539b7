-- The lines of a text
pub mod LinesLaws
-- and those that are no comments
pub mod SaidLaws
-- the number of such a line
pub mod LineOf
-- The ways through a text
pub mod TextLaws
-- What an answer says to a caller
pub mod AnswerLaws
-- The first bad line
pub mod BadLineLaws
-- A text has one answer, and its preamble is readable
pub mod OneAnswer
pub mod NoteReadable
