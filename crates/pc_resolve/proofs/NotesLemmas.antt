-- What the log of touched variables says behind some routines, and behind others, and which were kept: lemmas.
use Rattle.std.proofs.Common.{◌≡◌, ℕ, Bool, true, false, ◌&&◌, ◌||◌, List, [], ◌∷◌, ◌++◌, refl, ap, sym, ◌∙◌, append-nil, append_assoc, length, insert}
use Rattle.std.specs.Str.{bytes_eq}
use Rattle.pc_types.specs.Sameness.{same_owner}
use Rattle.pc_types.specs.Shapes.{Owner}
use Rattle.pc_rules.specs.Attributes.{nodes}
use Rattle.pc_rules.specs.Decorated.{decorate}
use Rattle.pc_rules.specs.ForStatements.{stands_among}
use Rattle.pc_rules.specs.HandedOn.{all_touches}
use Rattle.pc_rules.specs.Outsides.{quiet}
use Rattle.pc_rules.specs.Routines.{Routine, start_of}
use Rattle.pc_program_laws.specs.Inside.{InsideLaw, touches_of}
use Rattle.pc_sightings.specs.TouchedLog.{ShowsTouched}
use Rattle.pc_growth.specs.Grows.{Grows}
use Rattle.pc_places.specs.Places.{known}
use Rattle.pc_block_laws.specs.Touched.{TouchedLaw}
use Rattle.pc_own_names.specs.declared.own_name.RoutineNames.{RoutineNames}
use Rattle.pc_resolve.specs.Blocks.{Notes}
use Rattle.pc_resolve.specs.Kept.{IsKept}
use Rattle.pc_resolve.specs.declared.resolver.Resolver.{Resolver}
use Rattle.pc_resolve.proofs.KeptLemmas.{all-append, all-grow, insert-behind}

or-assoc : (a b c : Bool) → ((a || b) || c) ≡ (a || (b || c))
or-assoc true b c = refl
or-assoc false b c = refl

or-false : (a : Bool) → (a || false) ≡ a
or-false true = refl
or-false false = refl

or-true : (a : Bool) → (a || true) ≡ true
or-true true = refl
or-true false = refl

or-swap : (a b : Bool) → (a || b) ≡ (b || a)
or-swap true b = sym (or-true b)
or-swap false b = sym (or-false b)

-- a variable stands among two lists
pub among-append : (vs us : List (Owner × List ℕ)) (o : Owner) (n : List ℕ) → stands_among (vs ++ us) o n ≡ (stands_among vs o n || stands_among us o n)
among-append [] us o n = refl
among-append (v ∷ vs) us o n =
    let b = same_owner v.0 o && bytes_eq v.1 n in ap (λ (c : Bool). b || c) (among-append vs us o n) ∙ sym (or-assoc b (stands_among vs o n) (stands_among us o n))

-- no routines
pub Notes-none : (all : List Routine) (old new : Resolver) → new.touched ≡ old.touched → new.kept ≡ old.kept → Notes all [] old new
Notes-none all old new same kept = record {
  more = [];
  variables = [];
  log = same ∙ sym (append-nil old.touched);
  shown = tt;
  same = λ o n. refl;
  records = [];
  kept = ap (λ v. v.items) kept ∙ sym (append-nil old.kept.items);
  declared = tt;
}

-- some routines and others behind them
pub Notes-then : InsideLaw → TouchedLaw → (all rs us : List Routine) (a b c : Resolver) → Grows (known b.tables) (known c.tables) → Notes all rs a b → Notes all us b c → Notes all (rs ++ us) a c
Notes-then inside law all rs us a b c g f s = record {
  more = f.more ++ s.more;
  variables = f.variables ++ s.variables;
  log = s.log ∙ ap (λ (l : List (ℕ × ℕ)). l ++ s.more) f.log ∙ append_assoc a.touched f.more s.more;
  shown =
      law.appended (known c.tables).table.owners (known c.tables).names f.more f.variables s.more s.variables
      (law.grown (known b.tables).table.owners (known c.tables).table.owners (known b.tables).names (known c.tables).names f.more f.variables g.owners g.names f.shown) s.shown;
  same = λ o n.
      among-append f.variables s.variables o n ∙ ap (λ (x : Bool). x || stands_among s.variables o n) (f.same o n)
      ∙ ap (λ (x : Bool). stands_among (touches_of all rs) o n || x) (s.same o n) ∙ sym (among-append (touches_of all rs) (touches_of all us) o n)
      ∙ ap (λ (vs : List (Owner × List ℕ)). stands_among vs o n) (sym (inside.joined all rs us));
  records = f.records ++ s.records;
  kept = s.kept ∙ ap (λ (xs : List RoutineNames). xs ++ s.records) f.kept ∙ append_assoc a.kept.items f.records s.records;
  declared = all-append all (known c.tables) f.records s.records rs us (all-grow all (known b.tables) (known c.tables) f.records rs g f.declared) s.declared;
}

-- those inside a routine, and then its own block, where it was kept
pub Notes-own : TouchedLaw → (all inside : List Routine) (r : Routine) (a b c : Resolver) (more : List (ℕ × ℕ)) (touches : List (Owner × List ℕ)) (x : RoutineNames) → Grows (known b.tables) (known c.tables) → Notes all inside a b →
    c.touched ≡ b.touched ++ more → ShowsTouched (known c.tables).table.owners (known c.tables).names more touches → touches ≡ all_touches (nodes (decorate (quiet all r) (start_of r) r.block)) →
    IsKept all (known c.tables) x r → c.kept.items ≡ insert b.kept.items (length a.kept.items) x → Notes all (r ∷ inside) a c
Notes-own law all inside r a b c more touches x g f log shown are here kept =
    let own = all_touches (nodes (decorate (quiet all r) (start_of r) r.block)) in
    record {
      more = f.more ++ more;
      variables = f.variables ++ touches;
      log = log ∙ ap (λ (l : List (ℕ × ℕ)). l ++ more) f.log ∙ append_assoc a.touched f.more more;
      shown =
          law.appended (known c.tables).table.owners (known c.tables).names f.more f.variables more touches
          (law.grown (known b.tables).table.owners (known c.tables).table.owners (known b.tables).names (known c.tables).names f.more f.variables g.owners g.names f.shown) shown;
      same = λ o n.
          among-append f.variables touches o n ∙ ap (λ (x : Bool). x || stands_among touches o n) (f.same o n)
          ∙ ap (λ (vs : List (Owner × List ℕ)). stands_among (touches_of all inside) o n || stands_among vs o n) are
          ∙ or-swap (stands_among (touches_of all inside) o n) (stands_among own o n) ∙ sym (among-append own (touches_of all inside) o n);
      records = x ∷ f.records;
      kept = kept ∙ ap (λ (xs : List RoutineNames). insert xs (length a.kept.items) x) f.kept ∙ insert-behind a.kept.items f.records x;
      declared = (here, all-grow all (known b.tables) (known c.tables) f.records inside g f.declared);
    }
