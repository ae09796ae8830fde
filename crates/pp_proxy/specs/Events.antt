-- A turn behind its wait: the event, what leaves memory, what is kept on the disk, and what follows (the order is ours).
use Rattle.std.specs.Prelude.{◌≡◌, ◌≤◌, length}
use Rattle.pp_cache.specs.Bounds.{IsBounded}
use Rattle.pp_keeping.specs.Keeping.{KeepsAll, keeping}
use Rattle.pp_links.specs.Links.{IsLinked}
use Rattle.pp_proxy.specs.Handling.{Handles}
use Rattle.pp_proxy.specs.Leaving.{Leaves}
use Rattle.pp_proxy.specs.Moving.{LeadsOn, Turning}
use Rattle.pp_proxy.specs.Settling.{Settles}
use Rattle.pp_shelf.specs.Steady.{GrowsSteadily}
use Rattle.pp_state.specs.Ends.{AreSeated}
use Rattle.pp_world.specs.declared.event.Event.{Event}

-- what stands no more is taken off the disk, and what is whole is kept there; the desk has its file to lay entries out in
pub record Keeps (x y : Turning) : Type 0 where
  pub is : KeepsAll (length x.moving.desk.file.items) (keeping x.moving.desk.state x.shelf x.log x.faults) (keeping y.moving.desk.state y.shelf y.log y.faults)
  pub rest : record y.moving.desk { state = record y.moving.desk.state { cache = x.moving.desk.state.cache; has_lost_draft = x.moving.desk.state.has_lost_draft; is_astray = x.moving.desk.state.is_astray }; file = x.moving.desk.file } ≡ x.moving.desk
  pub long : length y.moving.desk.file.items ≡ length x.moving.desk.file.items
  pub links : y.moving.links ≡ x.moving.links
  pub top : y.moving.top ≡ x.moving.top
  pub count : x.faults ≤ y.faults

pub record TakesEvent (event : Event) (x y : Turning) : Type 0 where
  pub handled : Turning
  pub left : Turning
  pub kept : Turning
  pub handles : AreSeated x.moving.desk.state → Handles event x handled
  pub handled_bounded : IsBounded handled.moving.desk.state.cache
  -- which connections are open, the log tells there too
  pub handled_linked : IsLinked handled.log handled.moving.top handled.moving.links
  pub leaves : AreSeated handled.moving.desk.state → LeadsOn Leaves handled.moving left.moving handled.log left.log handled.faults left.faults
  pub leaves_shelf : left.shelf ≡ handled.shelf
  pub left_bounded : IsBounded left.moving.desk.state.cache
  pub keeps : Keeps left kept
  pub kept_bounded : IsBounded kept.moving.desk.state.cache
  pub settles : AreSeated kept.moving.desk.state → LeadsOn (Settles kept.shelf) kept.moving y.moving kept.log y.log kept.faults y.faults
  pub settles_shelf : y.shelf ≡ kept.shelf
  -- over all of it the log gets no word of a life's opening, and no wait; and the outside fails no less often
  pub steady : GrowsSteadily x.log y.log
  pub count : x.faults ≤ y.faults
  pub bounded : IsBounded y.moving.desk.state.cache
