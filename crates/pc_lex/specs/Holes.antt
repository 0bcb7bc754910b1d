-- Holes: `?` and the name of a sort.
use Rattle.std.specs.Prelude.{ℕ, ◌+◌, if◌then◌else◌, List, [], ◌∷◌, Option, Some, None, take}
use Rattle.std.specs.Str.{bytes_eq}
use Rattle.pc_syntax.specs.declared.sort.Sort.{Sort}
use Rattle.pc_syntax.specs.declared.sort.Sort.TheVariants as sort
use Rattle.pc_syntax.specs.Spellings.{sort_name}
use Rattle.pc_syntax.specs.Words.{is_letter, lowered}
use Rattle.pc_lex.specs.declared.error.LexError.TheVariants.{BadByte}
use Rattle.pc_lex.specs.declared.symbol.SymbolKind.TheVariants.{Hole}
use Rattle.pc_lex.specs.declared.front.Front.{Front}
use Rattle.pc_lex.specs.declared.front.Front.TheVariants.{Symbol, Fault}
use Rattle.pc_lex.specs.Runs.{run}

-- the sorts
abbrev pub sorts : List Sort
sorts = sort.Program ∷ sort.Block ∷ sort.ConstDef ∷ sort.TypeDef ∷ sort.VarDef ∷ sort.Routine ∷ sort.Parameter ∷ sort.Denoter ∷ sort.Field ∷ sort.Constant ∷ sort.Statement ∷ sort.Arm ∷ sort.Expression ∷ sort.Name ∷ []

-- the first of these sorts that has this name
abbrev pub sort_among : List Sort → List ℕ → Option Sort
sort_among [] w = None
sort_among (s ∷ ss) w = if bytes_eq (sort_name s) w then Some s else sort_among ss w

-- the sort with this name, in any case
unfoldable pub sort_named : List ℕ → Option Sort
sort_named w = sort_among sorts (lowered w)

-- a hole of this sort and length, or a fault where there is none
abbrev pub hole_or_fault : Option Sort → ℕ → Front
hole_or_fault None n = Fault (BadByte 1)
hole_or_fault (Some s) n = Symbol (Hole s) n

-- after a `?`, all the letters from here on are a sort's name
unfoldable pub hole_at : List ℕ → Front
hole_at bs = hole_or_fault (sort_named (take (run is_letter bs) bs)) (run is_letter bs + 1)
