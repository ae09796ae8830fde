-- What is known of the row of a key.
use Rattle.std.specs.Prelude.{Bool, List}
use Rattle.pp_text.specs.Fields.{Field}
use Rattle.pp_fresh.specs.declared.aging.Times.{Times}
use Rattle.pp_valid.specs.declared.version.Version.{Version}
use Rattle.pp_plan.specs.declared.row.PlanRow.{PlanRow}

pub record Row : Type 0 where
  pub version : Version
  pub fields : List Field  -- as they are kept
  pub times : Times
  pub held : Bool  -- each offset of what the reply would show is held

abbrev pub shown_row : PlanRow → Row
shown_row row = record { version = row.version.now; fields = row.fields; times = row.times; held = row.held }
