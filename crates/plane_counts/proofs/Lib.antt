pub mod Stocks
pub mod Shares
pub mod Grid
pub mod Planed
