use Rattle.std.proofs.Common.{arith, rules, refl, ap, sym, ◌∙◌, ◌≡◌, ◌+◌, length, length-take, ℕ}
use Rattle.pp_valid.specs.Versions.{strong_part}
use Rattle.pp_keeper.proofs.EntryLemmas.{can, fits_room, front_in_room}
use Rattle.pp_keeper.proofs.filling.keep.Goals as goal

pub overflow_add-file : goal.overflow_add-file
overflow_add-file g c = omega (arith, fits_room c.args.length c.published-kept.result (omega arith) c.published-kept.ensures.whole c.published-kept.ensures.few, c.body_at-at.ensures)

pub slice_bounds-file-end : goal.slice_bounds-file-end
slice_bounds-file-end g c = omega (arith, fits_room c.args.length c.published-kept.result (omega arith) c.published-kept.ensures.whole c.published-kept.ensures.few, c.body_at-at.ensures)

pub keep-requires : goal.keep-requires
keep-requires g c κs within =
    let size : length c.put_body.new.out ≡ c.body_at-at.result + c.published-kept.result = omega (
      arith,
      length-take (c.body_at-at.result + c.published-kept.result) c.args.room.now,
      c.told-room,
      fits_room c.args.length c.published-kept.result (omega arith) c.published-kept.ensures.whole c.published-kept.ensures.few,
      c.body_at-at.ensures,
    ) in (
      within,
      (
        can _ _ c.args.number (sym c.in-Whole.ensures.value) refl (omega (arith, c.ranges.number.fits)) (c.deref-3.ensures.0 ∙ c.key_of-key.ensures)
            (ap strong_part (sym c.in-Strong.ensures)) (omega arith) (omega arith) refl refl,
        (
          omega (arith, size, c.body_at-at.ensures),
          (front_in_room _ c.args.length c.published-kept.result _ (size ∙ ap (λ (at : ℕ). at + c.published-kept.result) c.body_at-at.ensures) c.published-kept.ensures.whole, (search rules, search)),
        ),
      ),
    )
