use Rattle.std.specs.Prelude.{Some, slice_get}
use Rattle.std.proofs.Common.{◌≡◌, ◌<◌, true, List, length, refl, ap, sym, ◌∙◌, subst}
use Rattle.std.proofs.lemmas.Option.{slice_get_read}
use Rattle.pc_syntax.specs.Classes.{is_access}
use Rattle.pc_syntax.specs.Plain.{Plain, kids_of}
use Rattle.pc_statements.specs.ListKinds.{accesses-kid, access-expression}
use Rattle.pc_told.proofs.opening.access_at.Goals as goal

pub new-requires : goal.new-requires
new-requires c =
    let list = c.args.list.now in
    let i = c.args.index in
    let kid = c.index-kids-index.result in
    let within : i < length c.kid_slice-kids.result.now = subst (λ (ks : List Plain). i < length ks) (sym c.kid_slice-kids.ensures.value) c.requires.in_bounds in
    let at : slice_get (kids_of list) i ≡ Some kid =
    subst (λ ks. slice_get ks i ≡ Some kid) c.kid_slice-kids.ensures.value (slice_get_read c.kid_slice-kids.result.now _ i kid refl within c.index-kids-index.is) in
    access-expression kid.kind (accesses-kid list kid i c.kid_slice-kids.ensures.proper c.requires.list at)

pub returns : goal.returns
returns c =
    let list = c.args.list.now in
    let i = c.args.index in
    let kid = c.index-kids-index.result in
    let within : i < length c.kid_slice-kids.result.now = subst (λ (ks : List Plain). i < length ks) (sym c.kid_slice-kids.ensures.value) c.requires.in_bounds in
    let at : slice_get (kids_of list) i ≡ Some kid =
    subst (λ ks. slice_get ks i ≡ Some kid) c.kid_slice-kids.ensures.value (slice_get_read c.kid_slice-kids.result.now _ i kid refl within c.index-kids-index.is) in
    record {
      found = at ∙ ap Some (sym c.new.ensures);
      access = subst (λ (q : Plain). is_access q.kind ≡ true) (sym c.new.ensures) (accesses-kid list kid i c.kid_slice-kids.ensures.proper c.requires.list at);
      proper = c.kid_slice-kids.ensures.proper;
    }
