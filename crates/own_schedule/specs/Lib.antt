pub mod OwnSchedule
pub mod Issuing
