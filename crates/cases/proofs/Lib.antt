pub mod LastPost
pub mod LateFigure
pub mod Figures
pub mod WorkedHour
