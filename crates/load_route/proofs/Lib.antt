pub mod Rows
pub mod WrittenLines
pub mod WrittenValues
pub mod RouteRows
pub mod DraftLines
pub mod CountLines
pub mod ScriptLines
