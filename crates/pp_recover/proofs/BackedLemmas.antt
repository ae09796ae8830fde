-- What a crash leaves holds only what was sent, from one life to the next.
use Rattle.std.proofs.Common.{◌≡◌, ℕ, ◌<◌, true, take, Option, Some, None, arith, refl, sym, ◌∙◌, ap, subst}
use Rattle.pp_world.specs.Disk.{Bytes, LeavesOne, view_of}
use Rattle.pp_world.specs.Files.{Files, file_of}
use Rattle.pp_world.specs.Log.{Log}
use Rattle.pp_gate.specs.Files.{HoldsSent, Sent, body, extent_in}
use Rattle.pp_gate.specs.Runs.{EachMoment}
use Rattle.pp_store.specs.Held.{IsEntryUnder}
use Rattle.pp_store.specs.Kept.{Kept, block_of}
use Rattle.pp_recover.specs.Image.{bytes_of, entry_in, entry_of}
use Rattle.pp_recover.specs.Opening.{AllSent, FilesAreBacked, OpensBacked}
use Rattle.pp_recover.proofs.CoverLemmas.{entry_under, kept_under_it}
use Rattle.pp_recover.proofs.EntryLemmas.{entry_told, head_told, room_told}
use Rattle.pp_recover.proofs.OpenLemmas.{AllStay}
use Rattle.pp_recover.proofs.RowLemmas.{spelt}
use Rattle.pp_recover.proofs.ShutLemmas.{Stays}

module _ (sent : Sent) (files : Files) (all_sent : AllSent sent files) (name file : Bytes) (stays : Stays name (file_of name files) (Some file)) (under : IsEntryUnder name file) where
  abbrev n : ℕ
  n = under.row.version.length

  abbrev kept : Kept
  kept = kept_under_it name file under

  -- it is the entry of the file that was there
  from : (was : Bytes) → file_of name files ≡ Some was → entry_in name was ≡ Some kept → (o : ℕ) → o < extent_in n file → sent (take 8192 file) o (body n file o) ≡ true
  from was there is o below =
      let told = entry_told name was kept is in
      let before : take 8192 was ≡ block_of under.row = (spelt (take 8192 was) under.row (head_told name was under.row told.head).row_is).block_is in
      let now : take 8192 file ≡ block_of under.row = (spelt (take 8192 file) under.row under.head).block_is in
      let same : body n file o ≡ body n was o = stays.1 kept (ap (entry_of name) there ∙ is) o below ∙ ap (λ (f : Option Bytes). body n (bytes_of f) o) there in
      subst (λ (block : Bytes). sent block o (body n file o) ≡ true) (before ∙ sym now)
      (subst (λ (x : ℕ). sent (take 8192 was) o x ≡ true) (sym same) (all_sent name was there kept is o (omega (arith, below, (room_told n was (extent_in n file) told.room).extent_is))))

  pub holds_sent : HoldsSent sent (take 8192 file) under.row.version.length file
  holds_sent = by (file_of name files) refl
    where
      by : (stood : Option Bytes) → file_of name files ≡ stood → HoldsSent sent (take 8192 file) under.row.version.length file
      by None there = absurd (let bad : Some kept ≡ None = sym (entry_under name file under) ∙ stays.0 ∙ ap (entry_of name) there in cc)
      by (Some was) there = λ o below. from was there (sym (ap (entry_of name) there) ∙ sym stays.0 ∙ entry_under name file under) o below

pub opens_backed : (old new : Option Log) → EachMoment old new AllStay → EachMoment old new OpensBacked
opens_backed old new all = record {
  at = λ k hs was is. record {
    at = λ p q split files fresh sent all_sent. record {
      each = λ name file left under. holds_sent sent files all_sent name file ((all.at k hs was is).at p q split files fresh name (Some file) left) under;
    };
  };
}

pub files-are-backed : FilesAreBacked
files-are-backed sent log files backed left name file there kept is =
    let told = entry_told name file kept is in
    let head = head_told name file kept.entry told.head in
    let room = room_told kept.entry.version.length file kept.extent told.room in
    backed.each name file (subst (LeavesOne (view_of name log).slot) there (left name))
    (record { row = kept.entry; head = head.row_is; own = head.own; entry = record { head = refl; long = room.long; short = room.short } })
