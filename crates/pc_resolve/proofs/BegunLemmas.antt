-- The tables behind the declaration parts of a block are sound for it: lemmas.
use Rattle.std.proofs.Common.{◌≡◌, ◌<◌, ℕ, List, [], ◌∷◌, ◌++◌, Option, Some, length, slice_get, refl, ap, sym, ◌∙◌, subst, arith}
use Rattle.std.specs.Prelude.{unwrap_or}
use Rattle.std.proofs.lemmas.List.{length-append}
use Rattle.pc_types.specs.Shapes.{Owner}
use Rattle.pc_syntax.specs.Plain.{Plain}
use Rattle.pc_names.specs.Chains.{AreBelow, chain_of}
use Rattle.pc_names.specs.Table.{slot_named}
use Rattle.pc_rules.specs.Meanings.{Local, Outside}
use Rattle.pc_rules.specs.Outsides.{signature_named}
use Rattle.pc_rules.specs.Routines.{Routine}
use Rattle.pc_pointers.specs.Good.{Targets}
use Rattle.pc_sightings.specs.TouchedLog.{AreApart}
use Rattle.pc_growth.specs.Grows.{Begins}
use Rattle.pc_growth.specs.GrowsLaws.{Begins-then, Grows-then, slice_get-begins}
use Rattle.pc_places.specs.Places.{known, Changes, IsPlace}
use Rattle.pc_places.specs.declared.tables.Tables.{Tables}
use Rattle.pc_openings.specs.Opened.{Opens}
use Rattle.pc_standing.specs.Signed.{Signatures, IsSigned, NoRoutines}
use Rattle.pc_standing.specs.SigningLaws.{SignsBlock-start, SignsBlocks-under}
use Rattle.pc_routine_sites.specs.Sites.{OwnersAmong, Sound}
use Rattle.pc_routine_sites.specs.declared.site.RoutineSite.{RoutineSite}
use Rattle.pc_resolve.specs.Blocks.{StandsBegun}
use Rattle.pc_resolve.specs.declared.resolver.Resolver.{Resolver}

slice_get-last : (xs : List (List ℕ)) (x : List ℕ) → slice_get (xs ++ x ∷ []) (length xs) ≡ Some x
slice_get-last [] x = refl
slice_get-last (y ∷ xs) x = slice_get-last xs x

-- the chain of a block that was begun
pub chain-begun : (blocks : List ℕ) (block : ℕ) (old new : List (List ℕ)) → block ≡ length old → Begins (old ++ (length old ∷ blocks) ∷ []) new → chain_of new block ≡ block ∷ blocks
chain-begun blocks block old new is g =
    let last : slice_get (old ++ (length old ∷ blocks) ∷ []) block ≡ Some (length old ∷ blocks) = ap (slice_get (old ++ (length old ∷ blocks) ∷ [])) is ∙ slice_get-last old (length old ∷ blocks) in
    ap (λ (o : Option (List ℕ)). unwrap_or o []) (slice_get-begins (old ++ (length old ∷ blocks) ∷ []) new block (length old ∷ blocks) g last) ∙ ap (λ (n : ℕ). n ∷ blocks) (sym is)

abbrev tail_of : List ℕ → List ℕ
tail_of [] = []
tail_of (x ∷ xs) = xs

more : (cs : List (List ℕ)) (c : List ℕ) (ds : List (List ℕ)) → ds ≡ cs ++ c ∷ [] → length cs < length ds
more cs c ds e = let n = length-append cs (c ∷ []) in let m = ap length e in omega (arith, n, m)

abbrev Signs : Tables → Signatures → List ℕ → Type 0
Signs t sig bs = IsSigned t.names (known t) t.declarations.items sig bs

-- the tables, for the block and those around it
pub sound-begun : (all done : List Routine) (targets : Targets) (r : Routine) (blocks : List ℕ) (site : RoutineSite) (s : Resolver) (node : Option Plain) (block owner : ℕ) (t1 t2 : Tables) (out : Outside) (l : Local) →
    Opens blocks site.parameters.items node block s.tables t1 → Changes block t1 t2 → StandsBegun all targets r done blocks site s → IsPlace t2 block owner out l → NoRoutines l.known →
    Sound all done t2 (chain_of t2.names.chains block)
sound-begun all done targets r blocks site s node block owner t1 t2 out l opens changes begun place none =
    let t0 = s.tables in
    let sig = signature_named all in
    let moves = opens.moves begun.around.have_names in
    let owners : (known t2).table.owners ≡ (known t0).table.owners = changes.owners ∙ moves.owners in
    let chain : chain_of t2.names.chains block ≡ block ∷ blocks =
    chain-begun blocks block t0.names.chains t2.names.chains opens.number (subst (λ (cs : List (List ℕ)). Begins cs t2.names.chains) opens.chains changes.chains) in
    let outer : place.outer ≡ blocks = ap tail_of (sym place.chain ∙ chain) in
    let below : AreBelow block blocks = subst (AreBelow block) outer place.below in
    let kept : (b : ℕ) → b < block → (q : List ℕ) → slot_named t2.names b q ≡ slot_named t0.names b q = λ b less q.
    let number = opens.number in
    let grown : length t0.names.chains < length t1.names.chains = more t0.names.chains (length t0.names.chains ∷ blocks) t1.names.chains opens.chains in
    changes.others b q (omega (arith, less, number, grown)) (λ e. omega (arith, less, e)) ∙ moves.others b q (omega (arith, less, number)) (λ e. omega (arith, less, e)) in
    record {
      distinct = changes.distinct (moves.distinct begun.sound.distinct);
      named = changes.named (moves.named begun.sound.named);
      signed =
          subst (λ (bs : List ℕ). Signs t2 sig bs) (sym chain) (
            SignsBlock-start t2 sig block owner out l place none,
            SignsBlocks-under block t0 t2 sig blocks below (Grows-then (known t0) (known t1) (known t2) moves.grows changes.grows)
                (Begins-then t0.declarations.items t1.declarations.items t2.declarations.items moves.declarations changes.declarations) kept begun.sound.named begun.sound.signed,
          );
      apart = subst AreApart (sym owners) begun.sound.apart;
      owners = subst (λ (os : List Owner). OwnersAmong os done) (sym owners) begun.sound.owners;
    }
