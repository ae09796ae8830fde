use Rattle.std.proofs.Common.{refl, false}
use Rattle.pp_entry.specs.Entries.{shown_entry}
use Rattle.pp_recover.specs.Shown.{shown_found}
use Rattle.pp_recover.proofs.RowLemmas.{spelt}
use Rattle.pp_recover.proofs.LookLemmas.{no_head_found, no_room_found, rests, closed, failed_of, found_of}
use Rattle.pp_recover.proofs.examine.examine.Goals as goal

pub returns-in-Ok-None-clause-entry : goal.returns-in-Ok-None-clause-entry
returns-in-Ok-None-clause-entry g c =
    no_head_found shown_entry shown_found _ _ c.args.name.now (rw c.in-Ok-None.field-0-is at c.in-Ok-None.ensures.head)

pub front_of-requires : goal.front_of-requires
front_of-requires g c =
    let row = rw c.in-Ok-Some.field-0-is at c.in-Ok-Some.ensures.row in
    record { sized = (spelt row.block (shown_entry c.in-Ok-Some.entry) row.is).sized }

pub close_strays-requires-clause-stands : goal.close_strays-requires-clause-stands
close_strays-requires-clause-stands g c =
    rests shown_entry shown_found _ _ c.args.name.now _ c.in-Ok-Some.entry c.in-Ok-Some.entry.version.length c.front_of.new.gates c.in-Ok-Some-front_of.front refl
    (rw c.in-Ok-Some.field-0-is at c.in-Ok-Some.ensures.head)
    (rw c.in-Ok-Some-front_of.field-0-is at c.in-Ok-Some-front_of.ensures.front)
    c.requires.stands

pub returns-in_err-close_strays-in-Ok-Some-front_of-clause-entry : goal.returns-in_err-close_strays-in-Ok-Some-front_of-clause-entry
returns-in_err-close_strays-in-Ok-Some-front_of-clause-entry g c =
    failed_of shown_found _ _ c.args.name.now c.from_residual.result c.from_residual.ensures.0 _
    (closed shown_entry shown_found _ _ c.args.name.now _ c.in-Ok-Some.entry c.in-Ok-Some.entry.version.length c.front_of.new.gates c.in-Ok-Some-front_of.front refl
    (rw c.in-Ok-Some.field-0-is at c.in-Ok-Some.ensures.head)
    (rw c.in-Ok-Some-front_of.field-0-is at c.in-Ok-Some-front_of.ensures.front)
    _ false c.in_err-close_strays-in-Ok-Some-front_of.ensures.ops)

pub returns-in_ok-close_strays-in-Ok-Some-front_of-clause-entry : goal.returns-in_ok-close_strays-in-Ok-Some-front_of-clause-entry
returns-in_ok-close_strays-in-Ok-Some-front_of-clause-entry g c =
    found_of shown_found _ _ c.args.name.now (record { entry = c.in-Ok-Some.entry; extent = c.in-Ok-Some-front_of.front.extent })
    (closed shown_entry shown_found _ _ c.args.name.now _ c.in-Ok-Some.entry c.in-Ok-Some.entry.version.length c.front_of.new.gates c.in-Ok-Some-front_of.front refl
    (rw c.in-Ok-Some.field-0-is at c.in-Ok-Some.ensures.head)
    (rw c.in-Ok-Some-front_of.field-0-is at c.in-Ok-Some-front_of.ensures.front)
    _ _ c.in_ok-close_strays-in-Ok-Some-front_of.ensures.ops)

pub returns-in-Ok-None-front_of-clause-entry : goal.returns-in-Ok-None-front_of-clause-entry
returns-in-Ok-None-front_of-clause-entry g c =
    no_room_found shown_entry shown_found _ _ c.args.name.now _ c.in-Ok-Some.entry c.in-Ok-Some.entry.version.length c.front_of.new.gates refl
    (rw c.in-Ok-Some.field-0-is at c.in-Ok-Some.ensures.head)
    (rw c.in-Ok-None-front_of.field-0-is at c.in-Ok-None-front_of.ensures.front)
