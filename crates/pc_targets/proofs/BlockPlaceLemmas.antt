-- The first of a block's routines stands where what names mean is carried and good.
use Rattle.std.proofs.Common.{◌≡◌, ℕ, true, if◌then◌else◌, List, [], ◌∷◌, refl, sym, ◌∙◌, ap, subst}
use Rattle.pc_syntax.specs.declared.kind.Kind.{Kind}
use Rattle.pc_syntax.specs.declared.kind.Kind.TheVariants as kind
use Rattle.pc_syntax.specs.Layout.{layout}
use Rattle.pc_syntax.specs.Plain.{Forest, Nil, Cons, Plain, trees_of, count, kinds}
use Rattle.pc_syntax.specs.WellFormed.{WellFormed, fits_some}
use Rattle.pc_scope.specs.Headings.{is_routine_kind}
use Rattle.pc_rules.specs.Attributes.{first}
use Rattle.pc_rules.specs.ClosedTypes.{own_domains, close_types}
use Rattle.pc_rules.specs.Decorated.{decorate}
use Rattle.pc_rules.specs.Meanings.{Found, Local}
use Rattle.pc_rules.specs.Outsides.{outside_of}
use Rattle.pc_rules.specs.OwnBlock.{own, bare_heading}
use Rattle.pc_rules.specs.Places.{inner, beside}
use Rattle.pc_rules.specs.Routines.{Routine, bare, start_of}
use Rattle.pc_environment.specs.Decorating.{place_behind}
use Rattle.pc_rule_laws.specs.Within.{inner-names, beside-names}
use Rattle.pc_pointers.specs.Good.{Targets}
use Rattle.pc_closed.specs.Settled.{Tells}
use Rattle.pc_carrying.specs.Parts.{IsGoodBehind, types_of}
use Rattle.pc_carrying.specs.RoutineLaws.{routines-inner}
use Rattle.pc_program_laws.specs.Routines.{behind_first, routines_start}
use Rattle.pc_program_laws.proofs.AlikeLemmas.{unsigned-law}
use Rattle.pc_program_laws.proofs.OwnLemmas.{own-block}
use Rattle.pc_targets.specs.Program.{types_in, hiding}
use Rattle.pc_targets.specs.Blocks.{IsGoodRoutine}
use Rattle.pc_targets.proofs.ChainLemmas.{Says, named, tells, Confines, confined, chain}
use Rattle.pc_targets.proofs.HidingLemmas.{hidden-after}
use Rattle.pc_targets.proofs.WholeLemmas.{IsWhole, AreWhole, own-whole, types-alike, types-hidden}

-- the kids of the first tree, and the trees behind it
abbrev first_kids : Forest → Forest
first_kids Nil = Nil
first_kids (Cons k w ns ks ts) = ks

abbrev behind : Forest → Forest
behind Nil = Nil
behind (Cons k w ns ks ts) = ts

-- a part stays in an own block as it is
part-stays : (m : List ℕ → Found) (l : Local) (k : Kind) (w : List ℕ) (ns : List (List ℕ)) (ks : Forest) → (if is_routine_kind k then bare_heading ks else own ks) ≡ ks →
    behind_first m l k w ns ks ≡ place_behind (bare m) l (record { kind = k; word = w; notes = ns; kids = ks })
unfolding own
part-stays m l k w ns ks e = λ i. beside l k (first (decorate (bare m) l (Cons k w ns (e i) Nil)))

-- four trees, and more behind them
abbrev pub fourfold : Plain → Plain → Plain → Plain → Forest → Forest
fourfold c t v q rest = Cons c.kind c.word c.notes c.kids (Cons t.kind t.word t.notes t.kids (Cons v.kind v.word v.notes v.kids (Cons q.kind q.word q.notes q.kids rest)))

-- the first of a block's routines stands where what names mean is carried and good
pub block-place : (targets : Targets) (us : List Routine) (r : Routine) (w : List ℕ) (c t v q : Plain) (rest : Forest) →
    fits_some (layout kind.Block w (count (fourfold c t v q rest))) (kinds (fourfold c t v q rest)) ≡ true → WellFormed (fourfold c t v q rest) → r.block ≡ own (fourfold c t v q rest) →
    Says targets us r × Confines r (bare r.means) → IsGoodRoutine targets r →
    (q.kind ≡ kind.Routines) × IsGoodBehind targets (hiding (start_of r).names (bare r.means)) (routines_start r.means (start_of r) (fourfold c t v q rest))
unfolding own
block-place targets us r w c t v q rest e g is says good =
    let f = fourfold c t v q rest in
    let m = r.means in
    let l = start_of r in
    let o = bare m in
    let same = own-block w f e g in
    let bare_q : Plain = record q { kids = own q.kids } in
    let trees : trees_of r.block ≡ c ∷ t ∷ v ∷ bare_q ∷ trees_of rest = ap trees_of (is ∙ same) in
    let whole : IsWhole c t v bare_q = subst (λ (x : Forest). AreWhole (trees_of x)) same (own-whole w f e g) in
    let types = types-hidden l.names o l c t refl ∙ types-alike o (outside_of us r) l c t whole.in_first whole.in_second (unsigned-law.outsides us r).0 in
    let own_types = named targets us r c t v bare_q (trees_of rest) trees whole good.parameters in
    let table = ap (types_in (outside_of us r) l) trees ∙ ap (λ (x : Local). own_domains (close_types x).known) (sym types) in
    let told = subst (Tells targets) table (tells targets us r own_types says.0) in
    let limits = confined targets us r o (types_of (hiding l.names o) l c t) table says.0 says.1 in
    let third = (chain targets r o c t v bare_q whole.kinds told limits good.parameters good.around (λ n. tt)).third in
    let l1 = place_behind o l c in
    let l2 = place_behind o l1 t in
    let l3 = place_behind o l2 v in
    let at : IsGoodBehind targets (hiding l.names o) l3 = subst (IsGoodBehind targets (hiding l.names o)) (hidden-after l.names o l (c ∷ t ∷ v ∷ []) refl) third in
    let moves =
    ap (λ (x : Local). behind_first m (behind_first m x t.kind t.word t.notes t.kids) v.kind v.word v.notes v.kids) (part-stays m l c.kind c.word c.notes c.kids (ap first_kids same))
    ∙ ap (λ (x : Local). behind_first m x v.kind v.word v.notes v.kids) (part-stays m l1 t.kind t.word t.notes t.kids (ap (λ (x : Forest). first_kids (behind x)) same))
    ∙ part-stays m l2 v.kind v.word v.notes v.kids (ap (λ (x : Forest). first_kids (behind (behind x))) same) in
    let inside = routines-inner targets (hiding l.names o) l3 q.kids at in
    let there = subst (λ (k : Kind). IsGoodBehind targets (hiding l.names o) (inner l3 k q.kids)) (sym whole.kinds.fourth) inside in
    (whole.kinds.fourth, subst (λ (x : Local). IsGoodBehind targets (hiding l.names o) (inner x q.kind q.kids)) (sym moves) there)

-- there its block declares the same names
pub first-names : (m : List ℕ → Found) (l : Local) (k : Kind) (w : List ℕ) (ns : List (List ℕ)) (ks : Forest) → (behind_first m l k w ns ks).names ≡ l.names
first-names m l k w ns ks = beside-names l k (first (decorate (bare m) l (own (Cons k w ns ks Nil))))

pub start-names : (m : List ℕ → Found) (l : Local) (c t v q : Plain) (rest : Forest) → (routines_start m l (fourfold c t v q rest)).names ≡ l.names
start-names m l c t v q rest =
    let l1 = behind_first m l c.kind c.word c.notes c.kids in
    let l2 = behind_first m l1 t.kind t.word t.notes t.kids in
    let l3 = behind_first m l2 v.kind v.word v.notes v.kids in
    inner-names l3 q.kind q.kids ∙ first-names m l2 v.kind v.word v.notes v.kids ∙ first-names m l1 t.kind t.word t.notes t.kids ∙ first-names m l c.kind c.word c.notes c.kids
