-- A life wakes to few files: so no more of them have the form of an entry's name than are looked at.
use Rattle.std.proofs.Common.{◌≡◌, ◌≤◌, refl, sym, subst, ◌∙◌, inl, ℕ, ◌+◌, Bool, true, false, not, cond, [], ◌∷◌, ◌++◌, length, map, filter, is_some, Option, Some, None, arith}
use Rattle.std.proofs.lemmas.List.Sums.{fold-append}
use Rattle.std.specs.List.{cons_option}
use Rattle.pp_joints_law.proofs.OpenedLife.{woke_obeys}
use Rattle.pp_law.specs.Entries.{entries_in, entry_in}
use Rattle.pp_law.specs.Lawful.{Lawful}
use Rattle.pp_law.specs.Lists.{Bytes}
use Rattle.pp_law.specs.State.{Entry}
use Rattle.pp_laws.specs.Runs.{state_after}
use Rattle.pp_laws_crash.proofs.Views.{view_more}
use Rattle.pp_laws_found.proofs.CountsLaws.{images_small}
use Rattle.pp_laws_found.specs.Counts.{HasFewFiles, is_no_entry}
use Rattle.pp_shelf_law.proofs.Disks.{disks}
use Rattle.pp_shelf_law.specs.Folder.{disk_with}
use Rattle.pp_world.specs.Disk.{IsLeftBehind, LeavesOne, View, at_rest, is_name, settled}
use Rattle.pp_world.specs.Files.{Files, file_of}
use Rattle.pp_world.specs.Log.{Log}
use Rattle.pp_world.specs.declared.happening.Happening.TheVariants.{Woke}
use Rattle.pp_turn_law.proofs.Woken.{woke_rises}
use Rattle.pp_turn_law.specs.Lives.{WokenOnesHaveFewNames}

-- what a life woke to a crash may leave
rest_left : (o : Option Bytes) → LeavesOne (at_rest o ∷ []) o
unfolding settled
rest_left None = inl tt
rest_left (Some bytes) = inl (record { no_shorter = omega arith; no_longer = omega arith; same = λ offset within tight. refl })

woken_left : (files : Files) → IsLeftBehind (Woke files ∷ []) files
woken_left files name = subst (λ (v : View). LeavesOne v.slot (file_of name files)) (sym (view_more name [] (Woke files))) (rest_left (file_of name files))

-- each file is an entry, or none
all_counted : (files : Files) → length files ≤ length (entries_in files) + length (filter is_no_entry files)
all_counted [] = omega arith
all_counted (p ∷ files) = by (entry_in p.0 p.1) (all_counted files)
  where
    by : (o : Option Entry) → length files ≤ length (entries_in files) + length (filter is_no_entry files) → length (p ∷ files) ≤ length (cons_option o (entries_in files)) + length (cond (not (is_some o)) (p ∷ filter is_no_entry files) (filter is_no_entry files))
    by None all = omega (arith, all)
    by (Some e) all = omega (arith, all)

named_ones : (files : Files) → length (filter is_name (map (λ file. file.0) files)) ≤ length files
named_ones [] = omega arith
named_ones (p ∷ files) = by (is_name p.0) (named_ones files)
  where
    by : (b : Bool) → length (filter is_name (map (λ file. file.0) files)) ≤ length files → length (cond b (p.0 ∷ filter is_name (map (λ file. file.0) files)) (filter is_name (map (λ file. file.0) files))) ≤ length (p ∷ files)
    by true less = omega (arith, less)
    by false less = omega (arith, less)

within : (names all entries others : ℕ) → names ≤ all → all ≤ entries + others → entries ≤ 10000 → others ≤ 1000 → names ≤ 65536
within names all entries others one two few rest = omega (arith, one, two, few, rest)

pub few_names : WokenOnesHaveFewNames
few_names terms before s files obeys may =
    let log : Log = before ++ Woke files ∷ [] in
    let lawful : Lawful terms log = (woke_obeys terms before s files obeys may).lawful in
    let disk : (state_after terms log).disk ≡ Woke files ∷ [] =
    disks terms (state_after terms log) log (record { lawful = lawful; goes = record { phases = 0; done = tt; there = refl } }) ∙ fold-append disk_with [] before (Woke files ∷ []) in
    let few : HasFewFiles files = images_small terms log files lawful (woke_rises s files may) (subst (λ (d : Log). IsLeftBehind d files) (sym disk) (woken_left files)) in
    within (length _) (length files) (length (entries_in files)) (length (filter is_no_entry files)) (named_ones files) (all_counted files) few.entries few.others
