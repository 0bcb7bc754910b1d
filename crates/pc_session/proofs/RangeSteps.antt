-- From what is answered to a program's text with a range replaced to what the session answers.
use Rattle.std.proofs.Common.{ℕ, List, Ok, Err}
use Rattle.pc_syntax.specs.Plain.{Plain}
use Rattle.pc_pretty.specs.declared.range.Range.{Range}
use Rattle.pc_parse.specs.declared.reading.Reading.{Reading}
use Rattle.pc_partial.specs.declared.error.RetypeError.{RetypeError}
use Rattle.pc_partial.specs.declared.error.RetypeError.TheVariants as retype
use Rattle.pc_partial.specs.Retyping as partial
use Rattle.pc_session.specs.Editing.{Retypes}
use Rattle.pc_session.specs.Finding.{unretyped}

module _ (p : Plain) (range : Range) (new : List ℕ) where
  pub Retypes-read : (r : Reading) → partial.Retypes p range new (Ok r) → Retypes range new p (Ok (record { tree = r.tree; dropped = r.dropped }))
  Retypes-read r (read) = (
    read.text,
    read.is_new,
    (
      record { symbols = read.symbols; tail = read.tail; spells = read.spells; read = read.answered.0 },
      read.answered.1,
      record { symbols = read.symbols; tail = read.tail; spells = read.spells; counted = read.answered.2 },
    ),
  )

  pub Retypes-refused : (e : RetypeError) → partial.Retypes p range new (Err e) → Retypes range new p (Err (unretyped e))
  Retypes-refused retype.BadRange none = none
  Retypes-refused (retype.Lex fault) faulty = (faulty.text, faulty.is_new, record { first = faulty.first; lexical = faulty.of_text })
  Retypes-refused (retype.NotFit k) read = (read.text, read.is_new, record { symbols = read.symbols; tail = read.tail; spells = read.spells; unfit = read.answered })
  Retypes-refused (retype.TooDeep d) read =
      let deep = read.answered in
      (read.text, read.is_new, (deep.tree, record { symbols = read.symbols; tail = read.tail; spells = read.spells; read = deep.read }, (deep.deep, deep.number)))
  Retypes-refused (retype.TooLarge n) read =
      let large = read.answered in
      (read.text, read.is_new, (large.tree, record { symbols = read.symbols; tail = read.tail; spells = read.spells; read = large.read }, (large.shallow, large.large, large.number)))
  Retypes-refused retype.NoMemory free = tt
