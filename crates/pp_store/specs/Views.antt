-- How one entry is kept in memory, and what is shown of it.
use Rattle.std.specs.Prelude.{◌≡◌, ◌≤◌, ◌^◌}
use Rattle.pp_target.specs.Name.{name_of}
use Rattle.pp_store.specs.declared.row.KeptRow.TheInside.{Inside}
use Rattle.pp_store.specs.declared.row.KeptView.{KeptView}
use Rattle.pp_store.specs.declared.row.Site.{Site}
use Rattle.pp_store.specs.Kept.{Kept, IsExtent, name_at}

-- the name is remembered with the entry, so that no search computes a digest
pub record IsRow (row : Inside) : Type 0 where
  pub name : row.name ≡ name_of row.text.key
  pub sized : row.version.length ≤ 2 ^ 26
  pub whole : IsExtent row.version.length row.extent

abbrev pub kept_in : Inside → Kept
kept_in row = record {
  entry = record { key = row.text.key; version = row.version; fields = row.text.fields; times = row.times };
  extent = row.extent;
}

-- what a view of an entry shows
abbrev pub shown : KeptView → Kept
shown view = record {
  entry = record { key = view.key.now; version = view.version.now; fields = view.fields; times = view.times };
  extent = view.extent;
}

abbrev pub site_of : Kept → Site
site_of row = record { name = name_at row; length = row.entry.version.length; extent = row.extent }
