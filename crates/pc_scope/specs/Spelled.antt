-- How the required names are spelled.
use Rattle.std.specs.Prelude.{ℕ, List, codes}
use Rattle.pc_scope.specs.declared.builtin.Builtin.{Builtin}
use Rattle.pc_scope.specs.declared.builtin.Builtin.TheVariants as builtin

-- a required name in small letters
abbrev pub spelling : Builtin → List ℕ
spelling builtin.Integer = codes "integer"
spelling builtin.Boolean = codes "boolean"
spelling builtin.Char = codes "char"
spelling builtin.Maxint = codes "maxint"
spelling builtin.False = codes "false"
spelling builtin.True = codes "true"
spelling builtin.Input = codes "input"
spelling builtin.Output = codes "output"
spelling builtin.Abs = codes "abs"
spelling builtin.Sqr = codes "sqr"
spelling builtin.Ord = codes "ord"
spelling builtin.Chr = codes "chr"
spelling builtin.Succ = codes "succ"
spelling builtin.Pred = codes "pred"
spelling builtin.Odd = codes "odd"
spelling builtin.Eof = codes "eof"
spelling builtin.Eoln = codes "eoln"
spelling builtin.Read = codes "read"
spelling builtin.Readln = codes "readln"
spelling builtin.Write = codes "write"
spelling builtin.Writeln = codes "writeln"
spelling builtin.New = codes "new"
spelling builtin.Dispose = codes "dispose"
