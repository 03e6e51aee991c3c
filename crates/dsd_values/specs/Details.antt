-- The details of an item, and the texts that they are made of.
use Rattle.std.specs.Prelude.{◌≤◌, ℕ, List, [], length}
use Rattle.dsd_values.specs.Reading.{IsElementText}
use Rattle.dsd_values.specs.declared.details.DetailTexts.{DetailTexts}
use Rattle.dsd_values.specs.declared.details.ItemDetails.{ItemDetails}
use Rattle.dsd_values.specs.declared.limits.TheConstants.{WORD_BYTES}

-- each of them is empty
abbrev pub no_details : ItemDetails
no_details = record { qualifier = []; id = []; case_code = []; pack = []; label = [] }

-- a text that some word has
abbrev pub IsWordText : List ℕ → Type 0
IsWordText text = IsElementText text × (length text ≤ WORD_BYTES)

-- each text is one of a word
pub record AreWordTexts (texts : DetailTexts) : Type 0 where
  pub qualifier : IsWordText texts.qualifier.now
  pub id : IsWordText texts.id.now
  pub case_code : IsWordText texts.case_code.now
  pub pack : IsWordText texts.pack.now
  pub label : IsWordText texts.label.now

-- what the texts say
abbrev pub details_of : DetailTexts → ItemDetails
details_of texts = record {
  qualifier = texts.qualifier.now;
  id = texts.id.now;
  case_code = texts.case_code.now;
  pack = texts.pack.now;
  label = texts.label.now;
}
