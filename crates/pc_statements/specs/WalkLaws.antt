-- Statements that were gone through, one after the other: lemmas.
use Rattle.std.specs.Prelude.{◌≡◌, ℕ, List, [], ◌∷◌, ◌++◌, true, map}
use Rattle.std.proofs.Common.{refl, ap, sym, ◌∙◌, subst}
use Rattle.std.proofs.lemmas.List.{map-append}
use Rattle.pc_syntax.specs.Plain.{Plain}
use Rattle.pc_types.specs.Shapes.{Owner}
use Rattle.pc_forms.specs.FormClasses.{Every}
use Rattle.pc_rules.specs.Attributes.{Node, nodes}
use Rattle.pc_rules.specs.HandedOn.{all_touches}
use Rattle.pc_environment.specs.Decorating.{attributes_at, place_after, marks_of}
use Rattle.pc_environment.specs.RowLaws.{sees-after}
use Rattle.pc_environment.specs.Sight.{is_body}
use Rattle.pc_sightings.specs.TouchedLog.{numbers_of}
use Rattle.pc_facts.specs.Known.{Known}
use Rattle.pc_facts.specs.Shows.{AllShow}
use Rattle.pc_facts.specs.declared.facts.Facts.{Facts}
use Rattle.pc_call_rules.specs.Parameters.{Logs}
use Rattle.pc_growth.specs.Grows.{Begins, Grows}
use Rattle.pc_growth.specs.GrowsLaws.{Begins-same, Begins-then, AllShow-with, ShowsNode-grows, Logs-none}
use Rattle.pc_bodies.specs.declared.body.Body.{Body}
use Rattle.pc_bodies.specs.declared.body.Going.{Going}
use Rattle.pc_bodies.specs.NodesAt.{node_at}
use Rattle.pc_bodies.specs.Resolved.{known, ShowsFacts, ResolvesAs}
use Rattle.pc_bodies.specs.RowsLaws.{nodes-more, AllShow-more, all_touches-more}
use Rattle.pc_bodies.specs.SeesLaws.{known-grows, stands-kept, logs-two}
use Rattle.pc_statements.specs.Walked.{IsIndex, Finds, WalksAs, WalkAs, Walks, WalksRow}

-- ---- the index

-- an index stays one as more is touched
pub index-logs : (k : Known) (own : List (ℕ × ℕ)) (g0 g1 : Going) (ws : List (Owner × List ℕ)) → IsIndex own g0 → Logs k g0.touched.items g1.touched.items ws → IsIndex own g1
index-logs k own g0 g1 ws h logs =
    Begins-then own (map numbers_of g0.touched.items) (map numbers_of g1.touched.items) h
    (record { more = map numbers_of logs.0; is = ap (map numbers_of) logs.1 ∙ map-append numbers_of g0.touched.items logs.0 })

-- no variable is an index of any log
pub index-none : (g : Going) → IsIndex [] g
index-none g = record { more = map numbers_of g.touched.items; is = refl }

-- ---- one part after the other

-- two parts
pub finds-then : (b : Body) (g0 g1 g2 : Going) (o1 o2 : List (ℕ × ℕ)) (ws vs : List (Owner × List ℕ)) (P Q R : Type 0) → Begins g1.texts.items g2.texts.items → (P → R) → Finds b g0 g1 o1 ws P → Finds b g1 g2 o2 vs Q →
    Finds b g0 g2 o2 (ws ++ vs) (R × Q)
finds-then b g0 g1 g2 o1 o2 ws vs P Q R t more one two =
    record { shows = (more one.shows, two.shows); touched = logs-two b g0 g1 g2 ws vs t one.touched two.touched; index = two.index }

-- what leaves the index alone
pub walks-of : {X : Type 0} (S : Known → X → Node → Type 0) (b : Body) (g0 g1 : Going) (o : List (ℕ × ℕ)) (t : Plain) (x : X) → ResolvesAs S b g0 g1 t x → WalksAs S b g0 g1 o o t x
walks-of S b g0 g1 o t x r = record {
  found = λ out l s sees stands index.
      let logs = r.touched out l s sees stands in
      record { shows = r.shows out l s sees stands; touched = logs; index = index-logs (known b g1) o g0 g1 (attributes_at out l t).touches index logs };
  opened = r.opened;
  texts = r.texts;
}

-- what began with an empty index
pub resolves-of : {X : Type 0} (S : Known → X → Node → Type 0) (b : Body) (g0 g1 : Going) (o : List (ℕ × ℕ)) (t : Plain) (x : X) → WalksAs S b g0 g1 [] o t x → ResolvesAs S b g0 g1 t x
resolves-of S b g0 g1 o t x w = record {
  shows = λ out l s sees stands. (w.found out l s sees stands (index-none g0)).shows;
  touched = λ out l s sees stands. (w.found out l s sees stands (index-none g0)).touched;
  opened = w.opened;
  texts = w.texts;
}

-- ---- nodes in a row

pub walk-none : {X : Type 0} (S : Known → X → Node → Type 0) (b : Body) (g : Going) (o : List (ℕ × ℕ)) → WalkAs S b g g o o [] []
walk-none S b g o = record {
  found = λ out l s sees stands index. record { shows = tt; touched = Logs-none (known b g) g.touched.items; index = index };
  opened = refl;
  texts = Begins-same g.texts.items;
}

-- one more node behind those so far, by a relation that stays as more is numbered
pub walk-more : {X : Type 0} (S : Known → X → Node → Type 0) → ((a c : Known) (x : X) (n : Node) → Grows a c → S a x n → S c x n) → (b : Body) (g0 g1 g2 : Going) (o0 o1 o2 : List (ℕ × ℕ)) (ts : List Plain) (t : Plain)
    (xs : List X) (x : X) → Every (λ u. is_body u.kind ≡ true) ts → WalkAs S b g0 g1 o0 o1 ts xs → WalksAs S b g1 g2 o1 o2 t x → WalkAs S b g0 g2 o0 o2 (ts ++ t ∷ []) (xs ++ x ∷ [])
walk-more S stays b g0 g1 g2 o0 o1 o2 ts t xs x bodies row one = record {
  found = λ out l s sees stands index.
      let first = row.found out l s sees stands index in
      let l2 = place_after out l ts in
      let second = one.found out l2 s (sees-after out l s ts bodies sees) (stands-kept b g0 g1 s row.opened row.texts stands) first.index in
      record {
        shows = subst (λ (ns : List Node). AllShow (S (known b g2)) (xs ++ x ∷ []) ns) (sym (nodes-more out l ts t))
            (AllShow-more (S (known b g2)) xs (nodes (marks_of out l ts)) x (node_at out l2 t)
            (AllShow-with (S (known b g1)) (S (known b g2)) (λ y n h. stays (known b g1) (known b g2) y n (known-grows b g1 g2 one.texts) h) xs (nodes (marks_of out l ts)) first.shows)
            second.shows);
        touched = subst (λ (ws : List (Owner × List ℕ)). Logs (known b g2) g0.touched.items g2.touched.items ws)
            (sym (ap all_touches (nodes-more out l ts t) ∙ all_touches-more (nodes (marks_of out l ts)) (node_at out l2 t)))
            (logs-two b g0 g1 g2 (all_touches (nodes (marks_of out l ts))) (attributes_at out l2 t).touches one.texts first.touched second.touched);
        index = second.index;
      };
  opened = one.opened ∙ row.opened;
  texts = Begins-then g0.texts.items g1.texts.items g2.texts.items row.texts one.texts;
}

-- facts stay as more is numbered
pub facts-stay : (a c : Known) (f : Facts) (n : Node) → Grows a c → ShowsFacts a f n → ShowsFacts c f n
facts-stay a c f n g h = ShowsNode-grows a c f n.at g h

-- one node, two and three
pub row-one : (b : Body) (g0 g1 : Going) (o0 o1 : List (ℕ × ℕ)) (t : Plain) (f : Facts) → Walks b g0 g1 o0 o1 t f → WalksRow b g0 g1 o0 o1 (t ∷ []) (f ∷ [])
row-one b g0 g1 o0 o1 t f w = walk-more ShowsFacts facts-stay b g0 g0 g1 o0 o0 o1 [] t [] f tt (walk-none ShowsFacts b g0 o0) w

pub row-two : (b : Body) (g0 g1 g2 : Going) (o0 o1 o2 : List (ℕ × ℕ)) (t u : Plain) (f g : Facts) → is_body t.kind ≡ true → Walks b g0 g1 o0 o1 t f → Walks b g1 g2 o1 o2 u g →
    WalksRow b g0 g2 o0 o2 (t ∷ u ∷ []) (f ∷ g ∷ [])
row-two b g0 g1 g2 o0 o1 o2 t u f g bt one two =
    walk-more ShowsFacts facts-stay b g0 g1 g2 o0 o1 o2 (t ∷ []) u (f ∷ []) g (bt, tt) (row-one b g0 g1 o0 o1 t f one) two

pub row-three : (b : Body) (g0 g1 g2 g3 : Going) (o0 o1 o2 o3 : List (ℕ × ℕ)) (t u v : Plain) (f g h : Facts) → is_body t.kind ≡ true → is_body u.kind ≡ true →
    Walks b g0 g1 o0 o1 t f → Walks b g1 g2 o1 o2 u g → Walks b g2 g3 o2 o3 v h → WalksRow b g0 g3 o0 o3 (t ∷ u ∷ v ∷ []) (f ∷ g ∷ h ∷ [])
row-three b g0 g1 g2 g3 o0 o1 o2 o3 t u v f g h bt bu one two three =
    walk-more ShowsFacts facts-stay b g0 g2 g3 o0 o2 o3 (t ∷ u ∷ []) v (f ∷ g ∷ []) h (bt, (bu, tt)) (row-two b g0 g1 g2 o0 o1 o2 t u f g bt one two) three
