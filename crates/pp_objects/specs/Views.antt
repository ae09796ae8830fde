-- What a view of an instance shows.
use Rattle.std.specs.Prelude.{◌≡◌}
use Rattle.pp_objects.specs.declared.objects.RowView.{RowView}
use Rattle.pp_objects.specs.Instances.{Instance}

pub record ShowsRow (view : RowView) (i : Instance) : Type 0 where
  pub key : view.key.now ≡ i.key
  pub version : view.version.now ≡ i.version
  pub fields : view.fields ≡ i.fields
  pub times : view.times ≡ i.times
  pub retired : view.retired ≡ i.is_retired
  pub followers : view.followers ≡ i.followers
