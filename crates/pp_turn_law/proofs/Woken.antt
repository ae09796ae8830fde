-- What a life woke to: its files stand in the order of their names, nothing of its disk changed yet, and it is in its opening.
use Rattle.std.proofs.Common.{◌≡◌, ◌∙◌, refl, ℕ, Bool, true, false, [], ◌∷◌, ◌++◌, map, Option, Some, None}
use Rattle.std.proofs.lemmas.List.Sums.{fold-append}
use Rattle.pp_conf.specs.Conf.{Settings}
use Rattle.pp_conf.specs.Words.{reading_of}
use Rattle.pp_joints_law.specs.Opened.{StillOpens, asked_for}
use Rattle.pp_law.specs.Lists.{Bytes}
use Rattle.pp_law.specs.Opening.{are_texts, begun, names_file, permits_image, permits_woke, settings_in, with_settings, woken}
use Rattle.pp_law.specs.Permits.{IsPermitted, is_permitted, permits}
use Rattle.pp_law.specs.State.{State, IsWoken}
use Rattle.pp_laws.proofs.Tests.{first_holds}
use Rattle.pp_shelf_law.specs.Folder.{disk_of, disk_with}
use Rattle.pp_world.specs.Disk.{is_rising}
use Rattle.pp_world.specs.Files.{Files}
use Rattle.pp_world.specs.Log.{Log}
use Rattle.pp_world.specs.declared.happening.Happening.TheVariants.{Configured, Woke}

-- each name once, in their order
woke_may : (s : State) (files : Files) → IsPermitted s (Woke files) → permits_woke s files ≡ true
unfolding is_permitted permits
woke_may s files may = by s.made_room_for may
  where
    by : (who : Option ℕ) → (elim who as (λ c. Bool) [ Some n ↦ permits_woke s files | None ↦ permits_woke s files ]) ≡ true → permits_woke s files ≡ true
    by None holds = holds
    by (Some n) holds = holds

pub woke_rises : (s : State) (files : Files) → IsPermitted s (Woke files) → is_rising (map (λ file. file.0) files) ≡ true
woke_rises s files may = first_holds (is_rising (map (λ file. file.0) files)) (permits_image s.phase s.disk files) (woke_may s files may)

-- FILE is none of the disk
pub asked_disk : (files : Files) (before : Log) (named text : Option Bytes) → disk_of ((before ++ Woke files ∷ []) ++ asked_for named text) ≡ Woke files ∷ []
asked_disk files before None text = fold-append disk_with [] (before ++ Woke files ∷ []) [] ∙ fold-append disk_with [] before (Woke files ∷ [])
asked_disk files before (Some file) text = fold-append disk_with [] (before ++ Woke files ∷ []) (Configured file text ∷ []) ∙ fold-append disk_with [] before (Woke files ∷ [])

-- whatever its words say
set_opens : (o : Option Settings) (s : State) → s.made_room_for ≡ None → StillOpens (with_settings o s)
unfolding with_settings
set_opens None s none = record { opens = refl; none = none }
set_opens (Some c) s none = record { opens = refl; none = none }

begun_opens : (s : State) → s.made_room_for ≡ None → StillOpens (begun s)
unfolding begun
begun_opens s none = by (are_texts s.term) (names_file s.term)
  where
    by : (texts names : Bool) → StillOpens (elim texts as (λ c. State) [
      | false ↦ with_settings None s
      | true ↦ elim names as (λ c. State) [ true ↦ record s { phase = IsWoken } | false ↦ with_settings (settings_in (reading_of s.term.words None)) s ]
    ])
    by false names = set_opens None s none
    by true true = record { opens = refl; none = none }
    by true false = set_opens (settings_in (reading_of s.term.words None)) s none

pub woken_opens : (files : Files) (s : State) → StillOpens (woken files s)
unfolding woken
woken_opens files s = begun_opens _ refl
