use Rattle.std.proofs.Common.{◌≡◌, ◌-◌, ◌∙◌, ap, inl, refl, arith, rules, w64}
use mir.Val.{to_z, of_z}
use Rattle.pc_types.specs.Shapes.{Keyed}
use Rattle.pc_types.specs.Expanded.{IntTy, TruthTy, LetterTy, NamedTy, SubTy, ArrayTy, RecordTy, SetTy, PointerTy}
use Rattle.pc_decl.specs.Structures.{structure, field_structures}
use Rattle.pc_decl.specs.StructuresLaws.{structure-Int, structure-Truth, structure-Letter, structure-Named, structure-Sub, structure-Array, structure-Record, structure-Set, structure-Pointer}
use Rattle.pc_decl.proofs.Types.{type-of, array-of, record-of, set-of, fields-more, fields-end, fields-stopped}
use Rattle.pc_decl.proofs.type_text.+texts.Goals as goal

pub push_fields-loop-name-init : goal.push_fields-loop-name-init
push_fields-loop-name-init t c = record {
  count = omega arith;
  text = inl refl;
}

pub push_fields-returns-then-len-text_limit : goal.push_fields-returns-then-len-text_limit
push_fields-returns-then-len-text_limit t c =
    fields-stopped c.loop-name.text.items _ c.loop-name.name-index c.args.fields.now (omega (arith, c.if-len-text_limit.true, c.len.ensures, c.text_limit.ensures)) c.loop-name.invariant.text

pub push_fields-overflow_sub-left : goal.push_fields-overflow_sub-left
push_fields-overflow_sub-left t c = omega (arith, c.loop-name.invariant.count, c.loop-name-test.true)

pub push_fields-loop-name-preserved : goal.push_fields-loop-name-preserved
push_fields-loop-name-preserved t c = record {
  count = omega (arith, c.loop-name.invariant.count, c.loop-name-test.true);
  text =
      fields-more c.loop-name.text.items c.push_field_name.new.text.items c.push_type.new.text.items c.push_behind_field.new.text.items _
      c.loop-name.name-index c.loop-name.left (c.loop-name.left - 1) c.args.fields.now c.loop-name-item.result
      c.loop-name-test.true c.loop-name-item.is c.loop-name.invariant.count refl c.loop-name.invariant.text
      (rw c.bytes.ensures at c.in_ok-push_field_name.ensures) c.in_ok-push_type.ensures c.in_ok-push_behind_field.ensures;
}

pub push_fields-returns : goal.push_fields-returns
push_fields-returns t c = fields-end c.loop-name.text.items _ c.loop-name.name-index c.args.fields.now c.loop-name-test.false c.loop-name.invariant.text

pub push_type-returns-in_ok-extend_from_slice-in-Int :
    goal.push_type-returns-in_ok-extend_from_slice-in-Int
push_type-returns-in_ok-extend_from_slice-in-Int t c =
    type-of c.args.text.now.items _ c.args.ty.now IntTy (ap structure c.in-Int.is ∙ structure-Int) (inl c.in_ok-extend_from_slice-in-Int.ensures.items)

pub push_type-returns-in_ok-extend_from_slice-in-Truth :
    goal.push_type-returns-in_ok-extend_from_slice-in-Truth
push_type-returns-in_ok-extend_from_slice-in-Truth t c =
    type-of c.args.text.now.items _ c.args.ty.now TruthTy (ap structure c.in-Truth.is ∙ structure-Truth) (inl c.in_ok-extend_from_slice-in-Truth.ensures.items)

pub push_type-returns-in_ok-extend_from_slice-in-Letter :
    goal.push_type-returns-in_ok-extend_from_slice-in-Letter
push_type-returns-in_ok-extend_from_slice-in-Letter t c =
    type-of c.args.text.now.items _ c.args.ty.now LetterTy (ap structure c.in-Letter.is ∙ structure-Letter) (inl c.in_ok-extend_from_slice-in-Letter.ensures.items)

pub push_type-returns-in_ok-push_named-in-Named : goal.push_type-returns-in_ok-push_named-in-Named
push_type-returns-in_ok-push_named-in-Named t c =
    type-of c.args.text.now.items _ c.args.ty.now (NamedTy c.in-Named.names) (ap structure c.in-Named.is ∙ structure-Named c.in-Named.names)
    (inl (rw c.as_slice.ensures at c.in_ok-push_named-in-Named.ensures))

pub push_type-returns-in_ok-push_range-in-Sub : goal.push_type-returns-in_ok-push_range-in-Sub
push_type-returns-in_ok-push_range-in-Sub t c =
    let low : to_z w64 (of_z w64 c.in-Sub.low) ≡ c.in-Sub.low = search rules in
    let high : to_z w64 (of_z w64 c.in-Sub.high) ≡ c.in-Sub.high = search rules in
    type-of c.args.text.now.items _ c.args.ty.now (SubTy (structure c.in-Sub.host) c.in-Sub.low c.in-Sub.high)
    (ap structure c.in-Sub.is ∙ structure-Sub c.in-Sub.host c.in-Sub.low c.in-Sub.high)
    (inl (rw (c.get.ensures, low, high) at c.in_ok-push_range-in-Sub.ensures))

pub push_type-returns-in_ok-push_type-in-Array-2 :
    goal.push_type-returns-in_ok-push_type-in-Array-2
push_type-returns-in_ok-push_type-in-Array-2 t c =
    type-of c.args.text.now.items _ c.args.ty.now (ArrayTy c.in-Array.packed (structure c.in-Array.index) (structure c.in-Array.element))
    (ap structure c.in-Array.is ∙ structure-Array c.in-Array.packed c.in-Array.index c.in-Array.element)
    (array-of c.args.text.now.items c.push_behind_packed.new.text.items c.push_type.new.text.items c.extend_from_slice-in-Array.new.self.items _
    c.in-Array.packed (structure c.in-Array.index) (structure c.in-Array.element)
    c.in_ok-push_behind_packed-in-Array.ensures (rw c.get-in-Array.ensures at c.in_ok-push_type-in-Array.ensures)
    c.in_ok-extend_from_slice-in-Array.ensures.items (rw c.get-in-Array-2.ensures at c.in_ok-push_type-in-Array-2.ensures))

pub push_type-returns-in_ok-extend_from_slice-in-Record :
    goal.push_type-returns-in_ok-extend_from_slice-in-Record
push_type-returns-in_ok-extend_from_slice-in-Record t c =
    type-of c.args.text.now.items _ c.args.ty.now (RecordTy c.in-Record.packed (field_structures c.in-Record.fields))
    (ap structure c.in-Record.is ∙ structure-Record c.in-Record.packed c.in-Record.fields)
    (record-of c.args.text.now.items c.push_behind_packed-in-Record.new.text.items c.push_fields.new.text.items _
    c.in-Record.packed (field_structures c.in-Record.fields)
    c.in_ok-push_behind_packed-in-Record.ensures (rw c.as_slice-in-Record.ensures at c.in_ok-push_fields-in-Record.ensures)
    c.in_ok-extend_from_slice-in-Record.ensures.items)

pub push_type-returns-in_ok-push_type-in-Set : goal.push_type-returns-in_ok-push_type-in-Set
push_type-returns-in_ok-push_type-in-Set t c =
    type-of c.args.text.now.items _ c.args.ty.now (SetTy c.in-Set.packed (structure c.in-Set.base))
    (ap structure c.in-Set.is ∙ structure-Set c.in-Set.packed c.in-Set.base)
    (set-of c.args.text.now.items c.push_behind_packed-in-Set.new.text.items _ c.in-Set.packed (structure c.in-Set.base)
    c.in_ok-push_behind_packed-in-Set.ensures (rw c.get-in-Set.ensures at c.in_ok-push_type-in-Set.ensures))

pub push_type-returns-in_ok-push_pointer-in-Pointer :
    goal.push_type-returns-in_ok-push_pointer-in-Pointer
push_type-returns-in_ok-push_pointer-in-Pointer t c =
    type-of c.args.text.now.items _ c.args.ty.now (PointerTy (Keyed c.in-Pointer.field-0) c.in-Pointer.name)
    (ap structure c.in-Pointer.is ∙ structure-Pointer c.in-Pointer.field-0 c.in-Pointer.name)
    (inl (rw c.bytes.ensures at c.in_ok-push_pointer-in-Pointer.ensures))
