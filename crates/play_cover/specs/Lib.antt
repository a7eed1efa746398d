pub mod Coverage
pub mod MoreLogs
pub mod Plays
pub mod RowMarks
pub mod RuleTables
pub mod Texts
pub mod TravelRows
pub mod Reports
