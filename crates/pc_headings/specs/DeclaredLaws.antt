-- Names and declarations of the parameters of a heading: lemmas.
use Rattle.std.proofs.Common.{◌≡◌, ◌<◌, ◌≤◌, ℕ, false, List, [], ◌∷◌, ◌++◌, length, Some, None, slice_get, ap, ◌∙◌}
use Rattle.pc_names.specs.Standing.{meant}
use Rattle.pc_rules.specs.Meanings.{is_routine_class}
use Rattle.pc_facts.specs.Known.{Known}
use Rattle.pc_facts.specs.declared.sighting.Declared.{Declared}
use Rattle.pc_growth.specs.Grows.{Begins}
use Rattle.pc_growth.specs.GrowsLaws.{Begins-append, length-begins}
use Rattle.pc_places.specs.Parameters.{ShowsParameters}
use Rattle.pc_places.specs.ParametersLaws.{AreNamed-grows, AreNamed-end, HaveNames-grows, HaveNames-end, AreParameters-grows, AreParameters-end}
use Rattle.pc_places.specs.Places.{Keeps}
use Rattle.pc_places.specs.declared.parameter.Parameter.{Parameter}
use Rattle.pc_places.specs.declared.tables.Tables.{Tables}
use Rattle.pc_headings.specs.Listing.{AreDeclared}
use Rattle.pc_headings.specs.NameListLaws.{slice_get-last}

-- no parameters
pub declared-none : (names : ℕ) (k : Known) (ds : List Declared) (ps : List Parameter) → ShowsParameters k ds ps [] → AreDeclared names ds ps
declared-none names k ds [] s = record { are_named = tt; have_names = tt; fresh = tt }
declared-none names k ds (p ∷ ps) s = absurd s

-- as more is numbered and declared
pub declared-grows : (m n : ℕ) (ds es : List Declared) (ps : List Parameter) → m ≤ n → Begins ds es → AreDeclared m ds ps → AreDeclared n es ps
declared-grows m n ds es ps le g h = record {
  are_named = AreNamed-grows m n ps le h.are_named;
  have_names = HaveNames-grows ds es ps g h.have_names;
  fresh = AreParameters-grows ds es ps g h.fresh;
}

-- the same of tables
pub declared-keeps : (a b : Tables) (ps : List Parameter) → Keeps a b → AreDeclared (length a.names.texts) a.declarations.items ps → AreDeclared (length b.names.texts) b.declarations.items ps
declared-keeps a b ps keeps h =
    declared-grows (length a.names.texts) (length b.names.texts) a.declarations.items b.declarations.items ps (length-begins a.names.texts b.names.texts keeps.grows.names) keeps.declarations h

-- one parameter more, whose declaration is the last
pub declared-more : (names : ℕ) (ds : List Declared) (x : Declared) (ps : List Parameter) (p : Parameter) → AreDeclared names ds ps → p.declaration.0 ≡ length ds → x.name.0 ≡ p.name.0 → p.name.0 < names →
    is_routine_class (meant x.class) ≡ false → x.signature ≡ None → AreDeclared names (ds ++ x ∷ []) (ps ++ p ∷ [])
declared-more names ds x ps p h at name there class signature =
    let all = ds ++ x ∷ [] in
    let g = Begins-append ds (x ∷ []) in
    let is : slice_get all p.declaration.0 ≡ Some x = ap (slice_get all) at ∙ slice_get-last ds x in
    record {
      are_named = AreNamed-end names ps p h.are_named there;
      have_names = HaveNames-end all ps p (HaveNames-grows ds all ps g h.have_names) (x, is, name);
      fresh = AreParameters-end all ps p (AreParameters-grows ds all ps g h.fresh) (x, is, class, signature);
    }
