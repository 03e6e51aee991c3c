pub mod StreamedSets
