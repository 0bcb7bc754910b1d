-- The proof of the law: what is found in a block is determined by the meanings of the names that it uses.
use Rattle.std.specs.Prelude.{ℕ, ◌≡◌, Bool, true, false, ◌&&◌, if◌then◌else◌, List, [], ◌∷◌, Option, Some, None, ◌++◌, refl}
use Rattle.std.proofs.Common.{refl, ap, sym, subst, ◌∙◌}
use Rattle.pc_syntax.specs.declared.kind.Kind.{Kind}
use Rattle.pc_syntax.specs.Plain.{Forest, Nil, Cons}
use Rattle.pc_syntax.specs.Words.{lowered}
use Rattle.pc_scope.specs.Headings.{is_function_kind, first_name, names_of_first}
use Rattle.pc_rules.specs.Decorated.{seen, unseen, rule, decorate}
use Rattle.pc_rules.specs.Attributes.{at_kid, Attributes, Mark, nodes}
use Rattle.pc_rules.specs.Routines.{block_start, Routine, bare, heading_start, firsts, heading_marks, params_in, start_of}
use Rattle.pc_rules.specs.Places.{inner, uses_first, uses_next, pass, pass_all, beside}
use Rattle.pc_rules.specs.DeclaringNames.{all_as}
use Rattle.pc_rules.specs.Errors.{own_entries}
use Rattle.pc_rules.specs.HandedOn.{kid_entries}
use Rattle.pc_rules.specs.Headings.{entries_of_heading}
use Rattle.pc_rules.specs.Meanings.{Class, VariableName, Meaning, declared_as, Found, Here, Local, Outside, entry_of, is_routine_class, known_or, later_or, field_or, find, define, define_all}
use Rattle.pc_rules.specs.Outsides.{outside_of}
use Rattle.pc_syntax.specs.declared.kind.Kind.TheVariants as kind
use Rattle.pc_rules.specs.Law.{name_used, names_used, SameAt, AgreeOn, Unaffected, SameFound, UnaffectedLaw}

-- ---- no node of a block changes which names the block declares

-- a name that stands before declares nothing
pass-names : (l : Local) (n : List ℕ) → (pass l n).names ≡ l.names
pass-names l [] = refl
pass-names l (c ∷ cs) = refl

-- the same of all names
pass_all-names : (l : Local) (ds : List (List ℕ × Meaning)) → (pass_all l ds).names ≡ l.names
pass_all-names l [] = refl
pass_all-names l (d ∷ ds) = pass_all-names (pass l d.0) ds ∙ pass-names l d.0

-- a declaration that is complete was one of the block's before
define_all-names : (l : Local) (ds : List (List ℕ × Meaning)) → (define_all l ds).names ≡ l.names
define_all-names l [] = refl
define_all-names l (d ∷ ds) = define_all-names (define l d.0 d.1) ds

-- the first kid of a node stands in the same block
inner-names : (l : Local) (k : Kind) (ks : Forest) → (inner l k ks).names ≡ l.names
inner-names l kind.Constdef ks = pass-names l (first_name ks)
inner-names l kind.Typedef ks = pass-names l (first_name ks)
inner-names l kind.Vardef ks = define_all-names l (all_as (declared_as VariableName l.owner) (names_of_first ks))
inner-names l kind.Routines ks = refl
inner-names l k ks = refl

-- so does the next one
beside-names : (l : Local) (k : Kind) (a : Attributes) → (beside l k a).names ≡ l.names
beside-names l kind.Types a = define_all-names l a.defines
beside-names l kind.Procedure a = define_all-names l a.defines
beside-names l kind.Function a = define_all-names l a.defines
beside-names l kind.Funbody a = define_all-names l a.defines
beside-names l (kind.Hole s) a = refl
beside-names l kind.Valparam a = pass_all-names l a.defines
beside-names l kind.Varparam a = pass_all-names l a.defines
beside-names l kind.Params a = pass_all-names l a.defines
beside-names l k a = define_all-names l a.defines

-- ---- parts of a list of names

-- agreement on a list of names is agreement on its beginning
front : (names : List (List ℕ × Class)) (xs ys : List (List ℕ)) (a b : Outside) → AgreeOn names (xs ++ ys) a b → AgreeOn names xs a b
front names [] ys a b h = tt
front names (x ∷ xs) ys a b h = (h.0, front names xs ys a b h.1)

-- and on its end
back : (names : List (List ℕ × Class)) (xs ys : List (List ℕ)) (a b : Outside) → AgreeOn names (xs ++ ys) a b → AgreeOn names ys a b
back names [] ys a b h = h
back names (x ∷ xs) ys a b h = back names xs ys a b h.1

-- ---- one name

-- a complete declaration, or the other meaning
known-same : (a b : Outside) (n : List ℕ) (o : Option Meaning) (e f : Found) → a.heading n ≡ b.heading n → e ≡ f → known_or a n o e ≡ known_or b n o f
known-same a b n None e f h p = p
known-same a b n (Some m) e f h p = λ i. Here (if is_routine_class m.class then record m { signature = h i } else m)

-- a later declaration, or the other meaning
later-same : (o : Option Class) (e f : Found) → (o ≡ None → e ≡ f) → later_or o e ≡ later_or o f
later-same None e f h = h refl
later-same (Some c) e f h = refl

-- a name on which two outsides agree means the same
find-same : (a b : Outside) (l : Local) (n : List ℕ) → SameAt l.names a b n → find a l n ≡ find b l n
unfolding find
find-same a b l n s =
    ap (field_or (entry_of l.fields n)) (known-same a b n (entry_of l.known n) _ _ s.heading (later-same (entry_of l.names n) (a.means n) (b.means n) s.means))

-- so does a name in a place of used names
used-same : (a b : Outside) (l : Local) (w : List ℕ) (u : Bool) → AgreeOn l.names (if u then lowered w ∷ [] else []) a b →
    (if u then record { found = find a l (lowered w); changed = a.touched (lowered w) } else unseen)
    ≡ (if u then record { found = find b l (lowered w); changed = b.touched (lowered w) } else unseen)
used-same a b l w false h = refl
used-same a b l w true h = λ i. record { found = find-same a b l (lowered w) h.0 i; changed = h.0.touched i }

-- what a node looks up is the same
seen-same : (a b : Outside) (l : Local) (k : Kind) (w : List ℕ) → AgreeOn l.names (name_used l.using k w) a b → seen a l k w ≡ seen b l k w
seen-same a b l kind.Name w h = used-same a b l w l.using h
seen-same a b l k w h = refl

-- agreement, where the block is known to declare the same names
moved : (x y : List (List ℕ × Class)) (ns : List (List ℕ)) (a b : Outside) → x ≡ y → AgreeOn y ns a b → AgreeOn x ns a b
moved x y ns a b e h = subst (λ (z : List (List ℕ × Class)). AgreeOn z ns a b) (sym e) h

-- Where two outsides agree on the names that trees use, the same is found at each node.
pub decorate-same : (a b : Outside) (l : Local) (f : Forest) → AgreeOn l.names (names_used l.using l.using_next f) a b → decorate a l f ≡ decorate b l f
unfolding decorate names_used
decorate-same a b l Nil h = refl
decorate-same a b l (Cons k w ns ks ts) h =
    let here : List (List ℕ) = name_used l.using k w in
    let kids : List (List ℕ) = names_used (uses_first k l.using) (uses_next k l.using) ks in
    let rest : List (List ℕ) = names_used l.using_next l.using_next ts in
    let h0 : AgreeOn l.names (here ++ kids) a b = front l.names (here ++ kids) rest a b h in
    let hk : AgreeOn (inner l k ks).names kids a b = moved (inner l k ks).names l.names kids a b (inner-names l k ks) (back l.names here kids a b h0) in
    let s : seen a l k w ≡ seen b l k w = seen-same a b l k w (front l.names here kids a b h0) in
    let m : decorate a (inner l k ks) ks ≡ decorate b (inner l k ks) ks = decorate-same a b (inner l k ks) ks hk in
    let x : Attributes = rule l k w (seen a l k w) (decorate a (inner l k ks) ks) in
    let hr : AgreeOn (beside l k x).names rest a b = moved (beside l k x).names l.names rest a b (beside-names l k x) (back l.names (here ++ kids) rest a b h) in
    ap (Mark x (decorate a (inner l k ks) ks)) (decorate-same a b (beside l k x) ts hr)
    ∙ (λ i. Mark (rule l k w (s i) (m i)) (m i) (decorate b (beside l k (rule l k w (s i) (m i))) ts))

-- the same is found at the nodes of the heading
heading-same : (rs us : List Routine) (r u : Routine) → Unaffected rs us r u → heading_marks r ≡ heading_marks u
unfolding heading_marks
heading-same rs us r u h =
    decorate-same (bare r.means) (bare u.means) (heading_start r.owner) r.heading h.heading_names
    ∙ (λ i. decorate (bare u.means) (heading_start (h.owner i)) (h.heading i))

-- the own block begins at the same
start-same : (rs us : List Routine) (r u : Routine) → Unaffected rs us r u → start_of r ≡ start_of u
start-same rs us r u h =
    let m : heading_marks r ≡ heading_marks u = heading-same rs us r u h in
    λ i. block_start (h.owner i) (if h.key i && is_function_kind (h.kind i) then Some (h.parent i, h.name i) else None)
    (if h.later i then h.given i else firsts [] (params_in (m i)).defines) (h.block i)

-- The law: both lists of entries come from the same marks.
pub unaffected : UnaffectedLaw
unfolding own_entries
unaffected rs us r u h =
    let s : start_of r ≡ start_of u = start-same rs us r u h in
    let e : heading_marks r ≡ heading_marks u = heading-same rs us r u h in
    let m : decorate (outside_of rs r) (start_of r) r.block ≡ decorate (outside_of us u) (start_of u) u.block =
    decorate-same (outside_of rs r) (outside_of us u) (start_of r) r.block h.block_names ∙ (λ i. decorate (outside_of us u) (s i) (h.block i)) in
    record { entries = λ i. entries_of_heading (h.kind i) (h.later i) (e i) ++ at_kid (h.kid i) (kid_entries 1 (nodes (m i))); marks = m }
