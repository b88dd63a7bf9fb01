-- What is left of a line, as its words.
use Rattle.ir_lex.specs.Words.{words}
use Rattle.ir_words.specs.declared.cursor.Cursor.{Cursor}
use Rattle.ir_words.specs.Words.{Words}

-- the bytes of the tokens that are left
abbrev pub left : Cursor → Words
left at = words at.line.now at.tokens.now
